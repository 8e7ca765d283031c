-- The lemmas for the crates above.
pub use Rattle.page_markup.proofs.MarkupLemmas.{both, each, within, words}
