pub mod CallerLemmas
pub mod GatheredLemmas
