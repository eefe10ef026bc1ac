pub mod Lines
pub mod Towns
pub mod Loaded
pub mod Weighted
pub mod WeightedFiles
pub mod Table
