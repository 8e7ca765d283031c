pub mod NumberLemmas
pub mod LineLemmas
pub mod WordsLemmas
pub mod SaidTextLemmas
pub mod StrikeLemmas
pub mod StruckLemmas
pub mod CallerLemmas
