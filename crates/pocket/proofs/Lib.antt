pub mod CallLemmas
pub mod KeeperLemmas
pub mod Listening
