pub mod Answers
pub mod Limits
pub mod Changes
pub mod Plans
pub mod Puts
