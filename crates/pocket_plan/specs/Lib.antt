pub mod Cutting
pub mod Truth
pub mod Guarding
pub mod Guarded
