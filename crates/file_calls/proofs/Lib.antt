pub mod ReadAnswers
pub mod FilePromises
pub mod ConvertPromises
