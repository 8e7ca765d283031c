pub mod LineRows
pub mod Triggers
pub mod Reading
pub mod Words
