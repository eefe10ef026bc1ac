pub mod Priced
pub mod Places
pub mod Queue
pub mod Limits
pub mod PathBack
pub mod Tights
