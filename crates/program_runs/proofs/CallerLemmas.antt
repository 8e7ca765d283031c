-- The lemmas for the crates above.
pub use Rattle.program_runs.proofs.FileLemmas.{read_file}
pub use Rattle.program_runs.proofs.StatusLemmas.{told_as, told_is_below_6, told_is_past_1}
