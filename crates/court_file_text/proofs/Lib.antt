pub mod NamesLemmas
pub mod ReadingLemmas
pub mod CallerLemmas
