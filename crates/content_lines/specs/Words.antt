-- The words of clauses and definitions, for the crates above, from one place.
pub use Rattle.content_lines.specs.Escaping.{escaped}
unfoldable pub use Rattle.content_lines.specs.Escaping.{unescaped}
unfoldable pub use Rattle.content_lines.specs.Folding.{sent_line, unfolded}
pub use Rattle.content_lines.specs.Folding.{is_content_line, ended_line, HasShortLines, HasWholeCharacters}
unfoldable pub use Rattle.content_lines.specs.Property.{property}
pub use Rattle.content_lines.specs.Property.{sent}
pub use Rattle.content_lines.specs.Times.{utc_day, utc_second}
unfoldable pub use Rattle.content_lines.specs.Times.{date_digits, utc_text}
unfoldable pub use Rattle.content_lines.specs.Stamp.{stamp_of_text}
