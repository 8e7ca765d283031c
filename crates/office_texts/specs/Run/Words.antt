-- The words of clauses and definitions, for the crates above, from one place.
pub use Rattle.office_texts.specs.Run.Replies.{reply_to, docketed_then, Holds}
unfoldable pub use Rattle.office_texts.specs.Run.Replies.{docketed_after}
pub use Rattle.office_texts.specs.Run.Text.{row_numbers, reply_text, sheet_shown, closing_text}
unfoldable pub use Rattle.office_texts.specs.Run.Text.{line_of, lines_from, sheets_from, calendars_from, run_text}
