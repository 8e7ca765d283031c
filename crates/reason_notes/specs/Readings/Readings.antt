-- Other readings of what the Rules leave open. What is shown by one is `shown_of` with one clause changed: of the deadline as
-- it is docketed, and of the same deadline with another act, another event, or its days counted in two steps; or with some days
-- that aren't legal holidays.
use Rattle.std.specs.Prelude.{ℕ, ◌==◌, Bool, true, false, ◌&&◌, not, List, [], option_map, Option, Some, None, if◌then◌else◌}
use Rattle.court_clock.specs.Words.{ClockView}
use Rattle.court_days.specs.Words.{DaysView}
use Rattle.rule6.specs.declared.timeliness.Act.{Act}
use Rattle.rule6.specs.declared.timeliness.Act.TheVariants.{Filing, Service}
use Rattle.rule6.specs.declared.timeliness.Shown.{Shown}
use Rattle.rule6.specs.declared.timeliness.Shown.TheVariants.{Last, Until, Beyond}
use Rattle.rule_periods.specs.declared.grant.Grant.{Grant}
use Rattle.rule_periods.specs.declared.grant.Grant.TheVariants as grant
use Rattle.rule_periods.specs.declared.period.Period.{Period}
use Rattle.rule_periods.specs.Words.{DeadlineRowView, act_due, is_days, is_in_hours, is_set, shown_of}
use Rattle.reason_notes.specs.declared.readings.reading.Reading.{Reading}
use Rattle.reason_notes.specs.declared.readings.reading.Reading.TheVariants.{OutageMovesNothing, OutageMovesService, ExtendedFromMovedDay, OutageBeforeAddedDays, HoursFromEndOfDay, FridayIsOpen, DoubtfulIsOpen}
use Rattle.reason_notes.specs.Readings.Changed.{adds_days, before_last, counted_again, day_after, last_grant, started_on, with_act, without_added}
use Rattle.reason_notes.specs.Readings.ByReading.{DaysByReadingView}

-- what is shown where this number of days, if it is a length of a period, is counted from a day that is shown, to file; from an
-- end beyond the days covered nothing but beyond
abbrev pub shown_again : DaysView → ClockView → ℕ → Shown → Option Shown
shown_again c clock n (Last day act) = if is_days n then Some (shown_of c clock (counted_again day n)) else None
shown_again c clock n (Until t) = None
shown_again c clock n Beyond = Some Beyond

-- 6(a)(3) says 'inaccessible on the last day for filing'. Here any outage on that day counts, however short. By another
-- reading one of some hours counts for nothing: the clause of `shown_of` by which an outage moves the time is left out, as it
-- is for service.
abbrev pub outage_moves_nothing : DaysView → ClockView → DeadlineRowView → Act → Option Shown
outage_moves_nothing c clock row Filing = Some (shown_of c clock (with_act Service row))
outage_moves_nothing c clock row Service = None

-- Here no outage moves a time for service. By another reading it does, since electronic service is made by filing
-- (5(b)(2)(E)): that clause is kept.
abbrev pub outage_moves_service : DaysView → ClockView → DeadlineRowView → Act → Option Shown
outage_moves_service c clock row Filing = None
outage_moves_service c clock row Service = Some (shown_of c clock (with_act Filing row))

-- Here an extension counts from the last day without the days that an outage gave. By another reading it counts from the day
-- to which the outage moved it.
abbrev pub extended_from_moved : DaysView → ClockView → DeadlineRowView → Option Grant → Act → Option Shown
extended_from_moved c clock row (Some (grant.ByDays n)) Filing = shown_again c clock n (shown_of c clock (before_last row))
extended_from_moved c clock row grant act = None

-- Here the three days of 6(d) count from the day on which the period would otherwise expire, and an outage counts on the
-- final day alone. By another reading it also moves the day from which the three days count.
abbrev pub outage_before_added : DaysView → ClockView → DeadlineRowView → Act → List Grant → (added : Bool) → Option Shown
outage_before_added c clock row Filing [] true = shown_again c clock 3 (shown_of c clock (without_added row))
outage_before_added c clock row act grants added = None

-- hours are counted: no order sets the end
abbrev pub counts_hours : Period → Bool
counts_hours period = is_in_hours period && not (is_set period)

-- Here hours whose event has no time of day count from midnight, at the beginning of its day. By another reading they count
-- from the end of that day.
abbrev pub hours_from_end : DaysView → ClockView → DeadlineRowView → Bool → Option Shown
hours_from_end c clock row true = option_map (λ next. shown_of c clock (started_on next row)) (day_after row.event.day)
hours_from_end c clock row false = None

-- what is shown of a deadline by another reading, where it bears on the deadline
abbrev pub shown_by : DaysByReadingView → ClockView → DeadlineRowView → Reading → Option Shown
shown_by c clock row OutageMovesNothing = outage_moves_nothing c.here clock row (act_due row)
shown_by c clock row OutageMovesService = outage_moves_service c.here clock row (act_due row)
shown_by c clock row ExtendedFromMovedDay = extended_from_moved c.here clock row (last_grant row) (act_due row)
shown_by c clock row OutageBeforeAddedDays = outage_before_added c.here clock row (act_due row) row.grants (adds_days row)
shown_by c clock row HoursFromEndOfDay = hours_from_end c.here clock row (counts_hours row.period && (row.event.minute == 0))
shown_by c clock row FridayIsOpen = Some (shown_of c.fridays_open clock row)
shown_by c clock row DoubtfulIsOpen = Some (shown_of c.doubtful_open clock row)
