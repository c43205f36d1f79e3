pub mod Forms
pub mod Scan
pub mod Words
pub mod Seen
pub mod Told
