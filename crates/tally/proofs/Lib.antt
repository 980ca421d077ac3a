pub mod Sums
pub mod Once
