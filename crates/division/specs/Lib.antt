pub mod Shares
pub mod Divide
pub mod Problem
pub mod Prices
