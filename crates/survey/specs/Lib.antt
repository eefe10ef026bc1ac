pub mod Town
pub mod Rows
pub mod ByKind
pub mod Refusals
pub mod Accepted
