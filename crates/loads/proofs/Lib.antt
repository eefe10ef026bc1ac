pub mod SiteSums
pub mod Limits
