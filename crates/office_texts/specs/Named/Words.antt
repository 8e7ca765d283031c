-- The words for the crates above, from one place.
pub use Rattle.office_texts.specs.Named.Named.{motion_called, named_answer, named_case_line, named_reply}
unfoldable pub use Rattle.office_texts.specs.Named.Named.{named_calendar, named_line_of, named_refusal}
pub use Rattle.office_texts.specs.Named.Laws.{WithoutNamesAsBefore}
