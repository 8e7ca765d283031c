-- The words for the crates above, from one place.
unfoldable pub use Rattle.row_written.specs.Called.{row_called}
pub use Rattle.row_written.specs.Fault.{FieldFault, fault_in}
pub use Rattle.row_written.specs.Headings.{word_at}
pub use Rattle.row_written.specs.Labels.{is_label}
pub use Rattle.row_written.specs.Rows.{fields_written, written_map}
unfoldable pub use Rattle.row_written.specs.Rows.{read_as}
