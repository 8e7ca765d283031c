mod LetterLemmas
mod WordLemmas
mod LineLemmas
pub mod NumberLemmas
mod LawLemmas
mod NamedLemmas
pub mod CallerLemmas
