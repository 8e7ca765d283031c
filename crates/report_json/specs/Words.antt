-- The words of clauses and definitions, for the crates above, from one place.
pub use Rattle.report_json.specs.Values.{Field, field, members, object_of, array_of, amount, or_null}
unfoldable pub use Rattle.report_json.specs.Document.{document_value}
pub use Rattle.report_json.specs.Document.{AreSheetsAfter, IsDocketJson, IsJsonText}
pub use Rattle.report_json.specs.Lines.{AreAnswerLines, ReadsBack, answers_of, line_of}
