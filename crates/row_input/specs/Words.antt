-- The words for the crates above, from one place.
unfoldable pub use Rattle.row_input.specs.Reading.{faulty_of, placed_from, rows_of}
pub use Rattle.row_input.specs.Reading.{FaultyText, faulty_in}
