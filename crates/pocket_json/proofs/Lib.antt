pub mod ChoosingLemmas
pub mod Layers
pub mod Numerals
pub mod Outlines
pub mod Profiles
pub mod RoundTrips
pub mod Steps
