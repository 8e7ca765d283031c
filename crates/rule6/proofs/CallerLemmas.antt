-- The lemmas for the crates above.
pub use Rattle.rule6.proofs.AlikeLemmas.{and_then_alike, end_of_hours_alike, extended_end_alike, in_time_alike}
pub use Rattle.rule6.proofs.HourLemmas.{no_civil_time}
