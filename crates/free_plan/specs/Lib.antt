pub mod Greedy
pub mod Kept
