-- The words of clauses and definitions, for the crates above, from one place.
pub use Rattle.court_holidays.specs.Weekdays.{IsInMonth, IsNthWeekday, IsLastWeekday, WeekdaysAreCounted, LastWeekdaysAreLast}
unfoldable pub use Rattle.court_holidays.specs.Weekdays.{nth_weekday, last_weekday}
pub use Rattle.court_holidays.specs.Federal.Statute.{is_stated, is_inauguration_year, inauguration_in, since, words_of, statute_name, federal_statute, LaborDayIsAMonday, HolidaysLieInTheirYear, NoTwoShareADay}
unfoldable pub use Rattle.court_holidays.specs.Federal.Statute.{set_in}
pub use Rattle.court_holidays.specs.Federal.Calendar.{all_holidays, is_kept, kept_on, is_day, DaysAreTheirHolidays}
unfoldable pub use Rattle.court_holidays.specs.Federal.Calendar.{holiday_on}
pub use Rattle.court_holidays.specs.Federal.Observed.{beside_weekend, law_in_place, ObservedAreInPlace}
unfoldable pub use Rattle.court_holidays.specs.Federal.Observed.{observed_for, observed_on}
pub use Rattle.court_holidays.specs.Federal.Closings.{ClosingView, closing_of, closing_view, closings_known}
unfoldable pub use Rattle.court_holidays.specs.Federal.Closings.{closings}
