pub mod TableRows
pub mod Stores
pub mod Moves
pub mod Mending
