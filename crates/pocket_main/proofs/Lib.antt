pub mod Crossing
pub mod Workers
