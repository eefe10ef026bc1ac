pub mod Totals
pub mod Sites
pub mod Bound
pub mod Kept
pub mod Valued
pub mod Weighed
