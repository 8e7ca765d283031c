-- The lemmas for the crates above.
pub use Rattle.program_streams.proofs.GatheredLemmas.{adds_both, adds_none, adds_same}
