-- The words for the crates above, from one place.
pub use Rattle.row_forms.specs.Headings.Columns.{column_at, mark_of, may_be_empty, name_of}
unfoldable pub use Rattle.row_forms.specs.Forms.Table.{columns_of, commands_listed}
