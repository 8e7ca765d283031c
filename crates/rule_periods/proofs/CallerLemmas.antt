-- The lemmas for the crates above.
pub use Rattle.rule_periods.proofs.AlikeLemmas.{base_alike, extended_alike, shown_after_alike, shown_alike, asked_alike, extension_alike}
