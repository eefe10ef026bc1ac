pub mod Moved
pub mod WalkBack
