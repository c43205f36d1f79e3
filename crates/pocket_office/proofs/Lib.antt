pub mod Crossing
pub mod OfficeLemmas
