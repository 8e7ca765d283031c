-- The words for the crates above, from one place.
unfoldable pub use Rattle.row_forms.specs.Line.Line.{line_read, fields_read}
pub use Rattle.row_forms.specs.Line.Line.{first_line, first_fields, line_spelling}
unfoldable pub use Rattle.row_forms.specs.Line.Clerk.{clerk_read}
