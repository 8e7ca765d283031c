-- The lemmas for the crates above.
pub use Rattle.program_main.proofs.OptionsLemmas.FaultLemmas.{fault_among, only_memory}
