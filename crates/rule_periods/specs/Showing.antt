-- What is shown of a deadline.
use Rattle.std.specs.Prelude.{◌≡◌, ℤ, ◌-◌, ◌*◌, length, slice_get, Bool, true, false, not, List, [], ◌∷◌, option_map, Option, Some, None, if◌then◌else◌}
use Rattle.std.specs.Option.{option_and_then, option_map_or}
use Rattle.court_clock.specs.declared.direction.Direction.{Direction}
use Rattle.court_clock.specs.declared.direction.Direction.TheVariants.{After}
use Rattle.court_clock.specs.Words.{ClockView, instant_of}
use Rattle.court_days.specs.Words.{DaysView}
use Rattle.rule6.specs.declared.timeliness.Act.{Act}
use Rattle.rule6.specs.declared.timeliness.Act.TheVariants.{Filing as ByFiling, Service as ByService}
use Rattle.rule6.specs.declared.timeliness.Shown.{Shown}
use Rattle.rule6.specs.declared.timeliness.Shown.TheVariants as shown
use Rattle.rule6.specs.Words.{extended_day, extended_end}
use Rattle.rule_periods.specs.declared.expiry.Expiry.{Expiry}
use Rattle.rule_periods.specs.declared.expiry.Expiry.TheVariants.{OnDay, AtInstant}
use Rattle.rule_periods.specs.declared.grant.Grant.{Grant}
use Rattle.rule_periods.specs.declared.grant.Grant.TheVariants.{Reset, ResetAt}
use Rattle.rule_periods.specs.declared.period.Period.{Period}
use Rattle.rule_periods.specs.Deadline.{DeadlineRowView, with_grant}
use Rattle.rule_periods.specs.Due.{act_due}
use Rattle.rule_periods.specs.Event.{EventView}
use Rattle.rule_periods.specs.Extended.{extended_of}
use Rattle.rule_periods.specs.Grant.{is_certain}
use Rattle.rule_periods.specs.Period.{direction_of, is_in_hours, is_set}

-- the end is a date certain: the last extension is to one, or there is none and an order set the end
abbrev pub certain_by : Period → List Grant → Bool
certain_by period grants = option_map_or is_certain (slice_get grants (length grants - 1)) (is_set period)

-- whose holidays count where the clerk's office was inaccessible: the period's, or, once an extension was granted,
-- those of a period after an event
abbrev pub access_direction : Direction → List Grant → Direction
access_direction direction [] = direction
access_direction direction (g ∷ grants) = After

-- the end, moved where the clerk's office was inaccessible (Fed. R. Civ. P. 6(a)(3))
abbrev pub accessed : DaysView → ClockView → Direction → Expiry → Option Expiry
accessed c clock direction (OnDay last) = option_map OnDay (extended_day c last direction)
accessed c clock direction (AtInstant end) = option_map AtInstant (extended_end c clock end direction)

-- inaccessibility moves the time for filing, unless it is a date certain; it doesn't move the time for service
abbrev pub is_moved_by_access : Act → Bool → Bool
is_moved_by_access ByFiling certain = not certain
is_moved_by_access ByService certain = false

-- what is shown of an end
abbrev pub shown_end : Act → Option Expiry → Shown
shown_end act None = shown.Beyond
shown_end act (Some (OnDay last)) = shown.Last last act
shown_end act (Some (AtInstant end)) = shown.Until end

-- What is shown of an end after extensions, which may be a date certain, with the direction whose holidays count for
-- access.
unfoldable pub shown_after : DaysView → ClockView → Act → Bool → Direction → Option Expiry → Shown
shown_after c clock act certain direction end =
    shown_end act (if is_moved_by_access act certain then option_and_then (accessed c clock direction) end else end)

-- what is shown of a deadline: its last day or the end of its hours, or that no covered day qualifies
unfoldable pub shown_of : DaysView → ClockView → DeadlineRowView → Shown
shown_of c clock row =
    shown_after c clock (act_due row) (certain_by row.period row.grants) (access_direction (direction_of row.period) row.grants) (extended_of c clock row)

-- the end that an order set: a day, or that minute of it by the court's clock
abbrev pub end_as_set : ClockView → DeadlineRowView → Shown
end_as_set clock row =
    if is_in_hours row.period then shown.Until (instant_of clock.zone row.event.day (60 * row.event.minute)) else shown.Last row.event.day (act_due row)

-- A deadline that an order set, and that wasn't extended, ends where the order set it: whatever days are open, and whenever the
-- clerk's office was inaccessible.
abbrev pub SetEndsStay : Type 0
SetEndsStay = (c : DaysView) (clock : ClockView) (row : DeadlineRowView) → is_set row.period ≡ true → row.grants ≡ [] → shown_of c clock row ≡ end_as_set clock row

-- So does the end that an order sets in place of another, a day or a minute of one, whatever the period is counted in.
pub record ResetEndsStay : Type 0 where
  pub on_day : (c : DaysView) (clock : ClockView) (row : DeadlineRowView) (day : ℤ) → shown_of c clock (with_grant row (Reset day)) ≡ shown.Last day (act_due row)
  pub at_time : (c : DaysView) (clock : ClockView) (row : DeadlineRowView) (at : EventView) → shown_of c clock (with_grant row (ResetAt at)) ≡ shown.Until (instant_of clock.zone at.day (60 * at.minute))
