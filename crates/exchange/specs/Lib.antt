pub mod Input
pub mod Demand3
pub mod Calls
