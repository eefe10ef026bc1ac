pub mod Passing
pub mod Calls
