pub mod Text
pub mod Dump
pub mod Page
