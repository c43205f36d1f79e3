pub mod Calls
pub mod Exits
pub mod Keeping
pub mod Listening
pub mod Runs
pub mod Words
