pub mod Entries
pub mod Reasons
pub mod Words
