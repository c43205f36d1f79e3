pub mod Asks
pub mod FaultWords
pub mod Laws
pub mod Queries
pub mod Refusals
pub mod Replies
pub mod Routes
pub mod Works
