-- The words of clauses and definitions, for the crates above, from one place.
pub use Rattle.case_numbers.specs.Number.{NameView, same_but_office}
unfoldable pub use Rattle.case_numbers.specs.Number.{case_read}
pub use Rattle.case_numbers.specs.NameLine.{name_line}
unfoldable pub use Rattle.case_numbers.specs.NameLine.{after_name, name_before}
pub use Rattle.case_numbers.specs.Cases.{CasesView, case_text, fresh, last_number, no_cases, with_name}
unfoldable pub use Rattle.case_numbers.specs.Cases.{first_free, name_of, number_of, with_case}
pub use Rattle.case_numbers.specs.Laws.{AreApart, KeysTellCasesApart, NamesStayApart, ShownIsReadBack, SpellingsAreRead}
