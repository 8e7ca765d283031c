-- The lemmas for the crates above.
pub use Rattle.court_clock.proofs.DayLemmas.SpanLemmas.{later_day-same, later_day-least, later_day-first, later_day-second, earlier_day-same, earlier_day-greatest, earlier_day-first, earlier_day-second}
pub use Rattle.court_clock.proofs.DayLemmas.SpanLemmas.{days_through-first, days_through-last, days_through-none, days_through-within, within-days_through, days_through-within_back, within-days_through_back, place_from_last, place_from_first, distance_within}
pub use Rattle.court_clock.proofs.DayLemmas.SearchLemmas.{first_passing-fails, first_passing-passes, last_passing-fails, last_passing-passes, IsFirst, IsLast, first_passing-is, first_passing-finds, last_passing-is, last_passing-finds}
pub use Rattle.court_clock.proofs.ClockLemmas.AlikeLemmas.{civil_time_alike, civil_of_alike, instant_alike}
pub use Rattle.court_clock.proofs.ClockLemmas.CivilLemmas.{offset_in_range, shown_from_civil}
