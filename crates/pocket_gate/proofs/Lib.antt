pub mod Tests
pub mod Sights
pub mod ShownLemmas
