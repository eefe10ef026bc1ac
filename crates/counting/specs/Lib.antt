pub mod Bounds
pub mod Words
pub mod Lists
pub mod Greatest
pub mod Buffers
pub mod Sites
pub mod Flags
