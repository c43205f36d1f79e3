pub mod Answers
pub mod Filtering
pub mod Terms
pub mod Sorting
pub mod Keys
pub mod Pages
pub mod Laws
