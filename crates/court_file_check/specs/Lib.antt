pub mod Seen
pub mod Faults
pub mod Warnings
pub mod AreWarnings
pub mod Check
pub mod Review
pub mod Places
pub mod Inside
