pub mod BodyLemmas
pub mod FramingLemmas
pub mod HeaderLemmas
pub mod NumberLemmas
pub mod PathLemmas
pub mod PrintedLemmas
