pub mod Rules
pub mod Seen
pub mod Built
pub mod Shown
