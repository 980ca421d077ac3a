pub mod Scalar
pub mod Header
pub mod Operands
