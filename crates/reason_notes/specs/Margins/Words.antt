-- The words of clauses and definitions, for the crates above, from one place.
pub use Rattle.reason_notes.specs.Margins.Ends.{end_day, end_time}
pub use Rattle.reason_notes.specs.Margins.Margin.{is_timely_by, is_undecided_by, MarginDecides, MarginsDecide}
unfoldable pub use Rattle.reason_notes.specs.Margins.Margin.{margin_of}
pub use Rattle.reason_notes.specs.Margins.Lines.{recorded_lines}
unfoldable pub use Rattle.reason_notes.specs.Margins.Lines.{margin_text, margin_lines, act_lines}
pub use Rattle.reason_notes.specs.Margins.Ahead.{as_of_text, ahead_of_day}
unfoldable pub use Rattle.reason_notes.specs.Margins.Ahead.{ahead_text, ahead_line}
