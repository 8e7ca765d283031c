pub mod PlainLemmas
pub mod CallerLemmas
