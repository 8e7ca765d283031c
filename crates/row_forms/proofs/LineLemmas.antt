pub mod PlainLemmas
pub mod RowTextLemmas
pub mod LineLemmas
pub mod ClerkLemmas
pub mod CallerLemmas
