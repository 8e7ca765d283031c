-- The lemmas for the crates above, from one place.
pub use Rattle.row_fields.proofs.NumberLemmas.{numbers_stay_whole_lem}
