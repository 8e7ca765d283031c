-- The lemmas for the crates above.
pub use Rattle.reason_refusals.proofs.CommandsLemmas.PartsLemmas.{parts_same}
