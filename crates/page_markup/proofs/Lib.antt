pub mod CallerLemmas
pub mod EscapingLemmas
pub mod MarkupLemmas
