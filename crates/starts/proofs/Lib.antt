pub mod ListedShares
pub mod FirstDivision
