pub mod ListShares
pub mod SurveyRounds
pub mod FallingLines
pub mod SurveyFloor
pub mod BestDivisions
