pub mod Shareable
pub mod Begun
