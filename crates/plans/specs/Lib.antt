pub mod Plans
pub mod Best
pub mod Unweighted
pub mod Order
