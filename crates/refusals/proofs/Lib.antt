pub mod Listed
pub mod ByKind
pub mod Passed
