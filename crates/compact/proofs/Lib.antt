pub mod SmallTable
pub mod BestByNumbers
pub mod SiteNumbers
