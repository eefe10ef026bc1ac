pub mod Loads
pub mod Sums
