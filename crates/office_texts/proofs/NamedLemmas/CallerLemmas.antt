-- The lemmas for the crates above.
pub use Rattle.office_texts.proofs.NamedLemmas.PlainLemmas.{without_names_as_before_lem}
