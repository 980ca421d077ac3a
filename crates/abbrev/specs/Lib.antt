pub mod Abbrev
pub mod BlockInfo
pub mod Tables
