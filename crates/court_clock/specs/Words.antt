-- The words of clauses and definitions, for the crates above, from one place.
pub use Rattle.court_clock.specs.Day.{IsDayNumber, weekday_of, is_weekend, counted_from}
pub use Rattle.court_clock.specs.Day.Search.{days_through, later_day, earlier_day}
unfoldable pub use Rattle.court_clock.specs.Day.Search.{first_passing, last_passing}
pub use Rattle.court_clock.specs.Day.Date.{CivilDate, days_before_in_year, months_before, date_text, is_written_day, IsDateOf, DaysHaveDates, TextsAreDays}
unfoldable pub use Rattle.court_clock.specs.Day.Date.{months_within, date_of, day_text, day_of_text}
pub use Rattle.court_clock.specs.Day.Months.{month_of_date, month_after, day_in_month, has_passed, IsEndOfMonths, MonthsPass}
pub use Rattle.court_clock.specs.Clock.Minute.{two_digits, minute_at, minute_of_text, minute_text}
pub use Rattle.court_clock.specs.Clock.Zone.{Zone, offset_minutes, zone_of_rule, zone_of_text, zone_view, IsSameClock, IsSameCourtClock, TextsNameClocks}
pub use Rattle.court_clock.specs.Clock.{IsInstantSecond, ClockView, with_efiling_until, CivilTime, offset_seconds, shown_second, second_of, is_day_number, is_ruled, standard_offset, daylight_offset, larger_offset, smaller_offset, Shows, IsInstantOf, InstantsAreEarliest, IsClock}
unfoldable pub use Rattle.court_clock.specs.Clock.{civil_time, civil_of, instant_of}
