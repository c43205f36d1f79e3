pub mod Names
pub mod Expansion
pub mod Met
