pub mod OwnTests
pub mod GoodPlans
pub mod PlanPromises
