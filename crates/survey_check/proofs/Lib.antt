pub mod Ones
pub mod Bits
