pub mod CallerLemmas
pub mod DivisionLemmas
pub mod DividerLemmas
pub mod FileLemmas
pub mod InputLemmas
pub mod StatusLemmas
pub mod ParallelLemmas
