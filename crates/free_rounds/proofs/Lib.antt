pub mod RoundLoops
pub mod Rounded
