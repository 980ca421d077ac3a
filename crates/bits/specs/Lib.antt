pub mod Reader
pub mod Bits
pub mod Told
pub mod Word
