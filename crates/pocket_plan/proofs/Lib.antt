pub mod Filtered
pub mod Opening
pub mod Shelves
pub mod Carried
