pub mod CallerLemmas
pub mod MarginLemmas
