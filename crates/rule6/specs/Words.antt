-- The words of clauses and definitions, for the crates above, from one place.
pub use Rattle.rule6.specs.Days.{expiry_of, next_day, IsNthDay, IsExpiry, IsThreeDaysLater, IsLastDay, LastDayIsCounted}
unfoldable pub use Rattle.rule6.specs.Days.{last_day_of}
pub use Rattle.rule6.specs.Hours.{hours_from, same_time_on, continued, IsContinued, IsEndOfHours, EndOfHoursIsCounted}
unfoldable pub use Rattle.rule6.specs.Hours.{end_of_hours_from}
pub use Rattle.rule6.specs.Access.{is_inside, meets_last_hour, IsMetAt, LastHourIsBySeconds}
unfoldable pub use Rattle.rule6.specs.Access.{extended_day, meets_within, extended_end}
pub use Rattle.rule6.specs.Service.{electronic_service_amended, adds_three_days}
pub use Rattle.rule6.specs.Timeliness.{day_end, is_by, is_within_the_day}
unfoldable pub use Rattle.rule6.specs.Timeliness.{is_in_time}
