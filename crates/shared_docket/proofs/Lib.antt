pub mod AlwaysLemmas
pub mod CallerLemmas
pub mod SequentialLemmas
