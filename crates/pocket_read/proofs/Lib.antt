pub mod Orders
pub mod Sorted
pub mod TextLemmas
pub mod TermLemmas
pub mod SeenLemmas
pub mod PageLemmas
pub mod LawLemmas
