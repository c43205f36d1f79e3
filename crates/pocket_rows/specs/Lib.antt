pub mod Cells
pub mod CollectionReading
pub mod CollectionRows
pub mod FieldReading
pub mod RowReading
pub mod SoundTokens
pub use Rattle.pocket_types.specs.Sound
