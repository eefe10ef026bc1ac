pub mod Walked
pub mod Rounding
pub mod AlikeLines
