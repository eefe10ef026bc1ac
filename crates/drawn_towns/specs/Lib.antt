pub mod Sized
pub mod Small
