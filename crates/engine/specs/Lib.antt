pub mod AtLevel
pub mod Outcomes
