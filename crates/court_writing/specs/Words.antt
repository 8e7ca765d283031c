-- The words of clauses and definitions, for the crates above, from one place.
pub use Rattle.court_writing.specs.Listed.{or_else, is_in_capital, federal_on, state_on}
pub use Rattle.court_writing.specs.Sources.{state_source, list_source}
pub use Rattle.court_writing.specs.Named.{listed_on, name_of, is_set, law_of, is_doubted, list_line, name_line, line_on, lines_through, year_lines, lines_of_year, list_text, IsTextOf}
unfoldable pub use Rattle.court_writing.specs.Named.{lines_from, years_from}
pub use Rattle.court_writing.specs.Own.{OwnView, are_hours, closes_of, judges_of, opens_of, rooms_of}
pub use Rattle.court_writing.specs.Written.{are_years, IsListed, AreDaysOf, IsOfCourt, IsFileOf}
pub use Rattle.court_writing.specs.Courts.{District, of_district, zone_text}
unfoldable pub use Rattle.court_writing.specs.Courts.{districts, district_named}
pub use Rattle.court_writing.specs.Update.{IsUpdateOf, court_said}
