pub mod Lines
pub mod Merged
pub mod Run
pub mod Text
pub mod Unnamed
pub mod Words
