pub mod Choosing
pub mod Reading
pub use Rattle.pocket_types.specs.Profile
