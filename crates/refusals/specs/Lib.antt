pub mod Inputs
pub mod Refusals
