pub mod Good
pub mod Calls
