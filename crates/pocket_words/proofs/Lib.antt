pub mod NumberLemmas
pub mod ClapLemmas
pub mod ClapReads
