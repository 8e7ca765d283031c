-- The words of clauses and definitions, for the crates above, from one place.
unfoldable pub use Rattle.reason_notes.specs.Warnings.Holidays.{lists_no_more}
unfoldable pub use Rattle.reason_notes.specs.Appeal.{moved_note}
pub use Rattle.reason_notes.specs.Warnings.Notes.{note, notes_of_act}
unfoldable pub use Rattle.reason_notes.specs.Warnings.Notes.{deadline_notes, extension_notes, hearing_notes, start_notes}
