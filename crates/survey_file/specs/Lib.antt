pub mod Filed
pub mod Encode
pub mod Decode
pub mod FileBuffers
pub mod Sizes
