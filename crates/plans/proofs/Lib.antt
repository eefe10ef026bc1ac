pub mod Orders
pub mod Unweighted
