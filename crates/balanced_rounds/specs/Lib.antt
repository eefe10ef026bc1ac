pub mod Lines
pub mod Worth
