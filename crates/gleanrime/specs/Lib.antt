pub mod Told
pub mod Header
pub mod Operands
