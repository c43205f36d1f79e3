pub mod KeepingLemmas
pub mod KeyLemmas
pub mod PlaceLemmas
