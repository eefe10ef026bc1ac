pub mod Reading
pub mod Tries
pub mod Walking
pub mod Whole
