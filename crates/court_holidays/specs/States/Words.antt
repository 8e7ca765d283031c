-- The words of clauses and definitions, for the crates above, from one place.
pub use Rattle.court_holidays.specs.Dates.{IsStated, IsNear, on}
pub use Rattle.court_holidays.specs.States.Easter.{full_moons, full_moon, sunday_after, EasterIsASunday}
unfoldable pub use Rattle.court_holidays.specs.States.Easter.{easter, good_friday}
pub use Rattle.court_holidays.specs.States.Days.{election_day}
unfoldable pub use Rattle.court_holidays.specs.States.Days.{words_of}
pub use Rattle.court_holidays.specs.States.Kept.{is_even, has_primary, is_stated, kept_by}
unfoldable pub use Rattle.court_holidays.specs.States.Kept.{is_in_force, weekend_rule, set_in, kept_in}
pub use Rattle.court_holidays.specs.States.Names.{state_holiday_name}
pub use Rattle.court_holidays.specs.States.Statutes.{state_statute}
pub use Rattle.court_holidays.specs.States.Listed.{holiday_of, is_doubtful}
unfoldable pub use Rattle.court_holidays.specs.States.Lists.{holidays_of}
pub use Rattle.court_holidays.specs.States.Calendar.{is_set_on, is_kept_on}
unfoldable pub use Rattle.court_holidays.specs.States.Calendar.{state_holiday_on}
