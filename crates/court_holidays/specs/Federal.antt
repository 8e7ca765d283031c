pub mod Statute
pub mod Calendar
pub mod Observed
pub mod Closings
pub mod Words
