pub mod Asked
pub mod Deadlines
pub mod Hearings
pub mod Ranges
pub mod Lines
pub mod Words
pub mod Commands
