-- The words of clauses and definitions, for the crates above, from one place.
unfoldable pub use Rattle.report_sql.specs.Literals.{quoted, taken_after}
pub use Rattle.report_sql.specs.Literals.{IsLiteralOf}
pub use Rattle.report_sql.specs.Rows.{SqlValue, row_of}
unfoldable pub use Rattle.report_sql.specs.Script.{script_text}
