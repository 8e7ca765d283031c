pub mod CameLemmas
pub mod FlagLemmas
pub mod TakenLemmas
pub mod WordLemmas
