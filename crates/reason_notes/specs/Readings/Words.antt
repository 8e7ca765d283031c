-- The words of clauses and definitions, for the crates above, from one place.
pub use Rattle.reason_notes.specs.Readings.Changed.{with_act, counted_again, last_grant, SameActShowsTheSame, ExtendedAgainShowsTheSame, AddedAgainShowsTheSame}
pub use Rattle.reason_notes.specs.Readings.ByReading.{DaysByReadingView, is_observed_friday, days_by_reading}
unfoldable pub use Rattle.reason_notes.specs.Readings.ByReading.{without_fridays, without_doubtful}
pub use Rattle.reason_notes.specs.Readings.Readings.{shown_by}
pub use Rattle.reason_notes.specs.Readings.Earlier.{is_earlier, earlier_of}
pub use Rattle.reason_notes.specs.Readings.Others.{differs, other_by, earliest_of, IsEarliest, OtherEndIsEarliest}
unfoldable pub use Rattle.reason_notes.specs.Readings.Others.{other_end}
pub use Rattle.reason_notes.specs.Readings.Lines.{reading_line, NoOtherEndHasNoLine}
unfoldable pub use Rattle.reason_notes.specs.Readings.Lines.{reading_lines}
