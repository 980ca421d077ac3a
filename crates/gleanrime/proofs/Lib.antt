pub mod Front
pub mod Parts
pub mod Typed
pub mod Once
