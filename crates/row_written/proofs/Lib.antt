mod RowLemmas
mod NumberLemmas
mod LawLemmas
pub mod CallerLemmas
