pub mod FieldLemmas
pub mod HolderLemmas
pub mod LoopLemmas
pub mod GroupLemmas
pub mod PathLemmas
pub mod WalkLemmas
pub mod RelationLemmas
