pub mod Counts
pub mod Best
pub mod Shared
pub mod Dual
pub mod Chain
pub mod Ties
pub mod ProblemShares
pub mod Renumbered
