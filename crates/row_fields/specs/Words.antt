-- The words of clauses and definitions, for the crates above, from one place.
pub use Rattle.row_fields.specs.Said.{said_map}
pub use Rattle.row_fields.specs.Letters.{bare, folded}
pub use Rattle.row_fields.specs.Numbers.{numbers_in}
pub use Rattle.row_fields.specs.Laws.{NumbersStayWhole}
pub use Rattle.row_fields.specs.Choices.{is_one_of}
unfoldable pub use Rattle.row_fields.specs.Choices.{act_said, answer_said, closing_said, counted_said, list_said, means_said, rule_said, ruling_said, service_said, why_said}
pub use Rattle.row_fields.specs.Named.{NamedPeriodView, period_view}
unfoldable pub use Rattle.row_fields.specs.Named.{named_periods, section_said, text_coded}
unfoldable pub use Rattle.row_fields.specs.Dates.{date_said}
unfoldable pub use Rattle.row_fields.specs.Times.{time_said}
pub use Rattle.row_fields.specs.Line.{fields_in, place_in, separator_of, typed}
