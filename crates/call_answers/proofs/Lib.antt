pub mod Refused
pub mod Answers
