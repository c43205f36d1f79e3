pub mod Scenes
pub mod Finding
pub mod Laws
