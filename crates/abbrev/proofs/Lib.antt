pub mod Answers
pub mod Rows
pub mod Held
pub mod Records
pub mod Infos
pub mod Once
