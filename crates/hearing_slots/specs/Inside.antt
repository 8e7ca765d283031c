-- What only proofs rest on, and no reader has to believe.
pub mod Blocks
pub mod DayNotes
pub mod Places
