pub mod AlikeLemmas
pub mod CallerLemmas
pub mod RunLemmas
