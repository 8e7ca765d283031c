pub mod AsOf
pub mod Asked
pub mod CommandLine
pub mod Given
pub mod Task
pub mod Words
