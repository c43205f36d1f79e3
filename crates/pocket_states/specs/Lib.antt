pub mod Clients
pub mod Laws
pub mod Putting
pub mod States
