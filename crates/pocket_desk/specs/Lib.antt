pub mod Machine
pub mod History
pub mod View
pub mod Lock
pub mod Steps
pub mod Turn
pub mod Pass
