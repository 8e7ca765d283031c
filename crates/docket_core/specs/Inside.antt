-- What only proofs rest on, and no reader has to believe.
pub mod Changes
pub mod Rebooking
pub mod Written
