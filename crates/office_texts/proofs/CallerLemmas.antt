-- The lemmas for the crates above.
pub use Rattle.office_texts.proofs.AlikeLemmas.{shown_text_alike, answer_text_alike, booking_lines_alike, calendar_lines_alike, sheet_lines_alike, view_lines_alike}
