pub mod Search
pub mod Improving
pub mod Gains
pub mod SearchLoops
pub mod Layered
