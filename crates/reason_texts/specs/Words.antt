-- The words of clauses and definitions, for the crates above, from one place.
pub use Rattle.reason_texts.specs.Course.{course_of, course_after}
pub use Rattle.reason_texts.specs.Names.{NamedDay, name_on, legal_text}
pub use Rattle.reason_texts.specs.Times.{day_end_time, time_of_civil}
unfoldable pub use Rattle.reason_texts.specs.Times.{two_digits, second_time, minute_time}
pub use Rattle.reason_texts.specs.Day.{day_shown, day_column}
unfoldable pub use Rattle.reason_texts.specs.What.{what_text}
pub use Rattle.reason_texts.specs.Section.{section_text}
pub use Rattle.reason_texts.specs.Spaces.{padded}
unfoldable pub use Rattle.reason_texts.specs.Note.{note_line}
pub use Rattle.reason_texts.specs.OlderEvent.{older_text, line_if_older, line_before}
unfoldable pub use Rattle.reason_texts.specs.OlderEvent.{older_line}
pub use Rattle.reason_texts.specs.Line.{lines_of}
unfoldable pub use Rattle.reason_texts.specs.Line.{reason_line, reason_lines}
