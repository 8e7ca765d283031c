pub mod Margin
pub mod Ends
pub mod Lines
pub mod Ahead
pub mod Words
