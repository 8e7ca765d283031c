pub mod Watched
pub mod Limits
pub mod Gathered
pub mod Words
