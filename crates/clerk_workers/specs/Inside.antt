-- What only proofs rest on, and no reader has to believe.
pub mod Merged
pub mod Calls
pub mod Steps
