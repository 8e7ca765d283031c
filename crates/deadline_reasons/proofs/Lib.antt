pub mod PassingLemmas
pub mod Answer
pub mod AnswerLemmas
pub mod HourLemmas
pub mod DerivationLemmas
pub mod ExtensionLemmas
pub mod OneDerivation
