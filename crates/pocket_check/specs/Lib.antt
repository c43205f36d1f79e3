pub mod Answers
pub mod Cells
pub mod Bodies
pub mod Changes
pub mod TextSets
pub mod Validity
pub mod Laws
