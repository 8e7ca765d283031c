pub mod AlikeLemmas
pub mod CallerLemmas
pub mod RunLemmas
pub mod NamedLemmas
pub mod NamesLemmas
