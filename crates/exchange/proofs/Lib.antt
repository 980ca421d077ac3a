pub mod Swap
pub mod Exchange
pub mod Input
pub mod Whole
pub mod Demand3
pub mod Calls
pub mod Example
