-- What only proofs rest on, and no reader has to believe.
pub mod Ask
pub mod Note
pub mod Changed
pub mod Correction
