pub mod CallerLemmas
mod PartsLemmas
