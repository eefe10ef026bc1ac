pub mod Rounds
pub mod Falling
pub mod Floor
