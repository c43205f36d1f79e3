pub mod Crossing
pub mod ReadingLemmas
pub mod WritingLemmas
