-- The lemmas for the crates above.
pub use Rattle.office_texts.proofs.RunLemmas.AlikeLemmas.{run_text_alike}
pub use Rattle.office_texts.proofs.RunLemmas.RunLemmas.{docketed_at, docketed_more, calendars_same, closing_same, range_more}
