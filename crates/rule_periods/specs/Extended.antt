-- When the time of a deadline ends with the extensions that were granted.
use Rattle.std.specs.Prelude.{ℕ, ◌*◌, Bool, pos, ◌+ℤ◌, fold, option_map, Option, Some, None, if◌then◌else◌}
use Rattle.std.specs.Option.{option_and_then}
use Rattle.court_clock.specs.declared.direction.Direction.TheVariants.{After}
use Rattle.court_clock.specs.Words.{ClockView, instant_of}
use Rattle.court_days.specs.Words.{DaysView, rolled}
use Rattle.rule6.specs.Words.{end_of_hours_from}
use Rattle.rule_periods.specs.declared.expiry.Expiry.{Expiry}
use Rattle.rule_periods.specs.declared.expiry.Expiry.TheVariants.{OnDay, AtInstant}
use Rattle.rule_periods.specs.declared.grant.Grant.{Grant}
use Rattle.rule_periods.specs.declared.grant.Grant.TheVariants.{ByDays, ByHours, Until, Reset, ResetAt}
use Rattle.rule_periods.specs.Base.{base_of}
use Rattle.rule_periods.specs.Deadline.{DeadlineRowView}
use Rattle.rule_periods.specs.Grant.{grant_fits}
use Rattle.rule_periods.specs.Period.{is_in_hours}

-- An extension by days is counted from the last day so far and rolled forward, with the holidays of a period after an
-- event. One by hours is counted as hours are (6(a)(2)), with those holidays too.
abbrev pub by_days : DaysView → ℕ → Expiry → Option Expiry
by_days c n (OnDay last) = option_map OnDay (rolled c (last +ℤ pos n) After)
by_days c n (AtInstant end) = None

abbrev pub by_hours : DaysView → ClockView → ℕ → Expiry → Option Expiry
by_hours c clock h (OnDay last) = None
by_hours c clock h (AtInstant end) = option_map AtInstant (end_of_hours_from c clock end h After)

-- when the time ends after one more extension; a date certain is the end, whatever the end was before, and so is the day or the
-- minute that an order sets
abbrev pub granted : DaysView → ClockView → Option Expiry → Grant → Option Expiry
granted c clock end (ByDays n) = option_and_then (by_days c n) end
granted c clock end (ByHours h) = option_and_then (by_hours c clock h) end
granted c clock end (Until d) = Some (OnDay d)
granted c clock end (Reset d) = Some (OnDay d)
granted c clock end (ResetAt at) = Some (AtInstant (instant_of clock.zone at.day (60 * at.minute)))

-- when the time ends after one more extension of a period that is, or isn't, in hours
abbrev pub granted_if_it_fits : DaysView → ClockView → Bool → Option Expiry → Grant → Option Expiry
granted_if_it_fits c clock hours end grant = if grant_fits hours grant then granted c clock end grant else None

-- when the time ends, with every extension in turn
unfoldable pub extended_of : DaysView → ClockView → DeadlineRowView → Option Expiry
extended_of c clock row = fold (granted_if_it_fits c clock (is_in_hours row.period)) (base_of c clock row) row.grants
