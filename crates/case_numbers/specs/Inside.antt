-- What only proofs rest on, and no reader has to believe.
pub mod Cases
