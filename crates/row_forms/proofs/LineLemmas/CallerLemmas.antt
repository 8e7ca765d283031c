-- The lemmas for the crates above.
pub use Rattle.row_forms.proofs.LineLemmas.LineLemmas.{says_row, says_first, has_fields}
