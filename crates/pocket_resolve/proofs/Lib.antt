pub mod ViaLemmas
pub mod FieldLemmas
pub mod FilterLemmas
pub mod Walks
pub mod Sides
pub mod Typed
pub mod Safe
pub mod BuiltIns
