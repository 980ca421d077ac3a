pub mod Headers
pub mod Typed
pub mod Once
pub mod Answers
