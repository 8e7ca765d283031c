pub mod AgainLemmas
pub mod EarliestLemmas
pub mod GrantLemmas
pub mod OtherLemmas
pub mod SameLemmas
