pub mod CallerLemmas
pub mod CharacterLemmas
pub mod EscapingLemmas
pub mod FoldingLemmas
pub mod PropertyLemmas
pub mod ShortLemmas
pub mod StampLemmas
pub mod WholeLemmas
