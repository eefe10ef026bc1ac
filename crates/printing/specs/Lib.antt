pub mod Texts
pub mod Asked
