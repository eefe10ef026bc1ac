pub mod Rooms
pub mod Decimals
pub mod Streets
pub mod Sizes
