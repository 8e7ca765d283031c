-- The words of clauses and definitions, for the crates above, from one place.
unfoldable pub use Rattle.office_texts.specs.Names.Called.{case_called, case_number}
pub use Rattle.office_texts.specs.Names.Called.{called_text, number_called}
pub use Rattle.office_texts.specs.Names.Laws.{WithoutNamesAsNumbers}
