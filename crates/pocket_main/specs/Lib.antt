pub mod Keepers
pub mod Outcomes
