pub mod Filling
pub mod Tabled
pub mod Keyed
pub mod Weighed
