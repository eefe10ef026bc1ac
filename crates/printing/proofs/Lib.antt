pub mod Worked
pub mod PlanTexts
pub mod FileTexts
pub mod Enough
