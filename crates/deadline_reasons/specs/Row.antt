-- What a deadline says of its own counting.
use Rattle.std.specs.Prelude.{ℤ, Bool, ◌&&◌}
use Rattle.rule_periods.specs.declared.period.Length.{Length}
use Rattle.rule_periods.specs.declared.period.Length.TheVariants.{Days}
use Rattle.rule_periods.specs.declared.period.Period.{Period}
use Rattle.rule_periods.specs.declared.period.Period.TheVariants.{Rule, Entered}
use Rattle.rule_periods.specs.Words.{DeadlineRowView, terms_of, runs_from, service_rule_of, runs_from_service, kind_adds, act_due, direction_of, certain_by, access_direction, is_moved_by_access}
use Rattle.court_clock.specs.declared.direction.Direction.{Direction}

-- how long the period is
abbrev pub length_of : DeadlineRowView → Period → Length
length_of row (Rule rule) = Days (terms_of rule (runs_from row)).days
length_of row (Entered entered) = entered.length

-- the day of the event, or the later of two
abbrev pub event_day : DeadlineRowView → Period → ℤ
event_day row (Rule rule) = runs_from row
event_day row (Entered entered) = row.event.day

-- three days are added for the kind of service (Fed. R. Civ. P. 6(d))
abbrev pub adds_three : DeadlineRowView → Period → Bool
adds_three row (Rule rule) = runs_from_service (service_rule_of rule) && kind_adds row.service row.event.day
adds_three row (Entered entered) = entered.served && kind_adds row.service row.event.day

-- the time is one for filing and ends on no date certain, so that it matters whether the clerk's office was accessible
-- (6(a)(3))
abbrev pub needs_access : DeadlineRowView → Bool
needs_access row = is_moved_by_access (act_due row) (certain_by row.period row.grants)

-- whose holidays are passed over where an accessible day is looked for
abbrev pub access_holidays : DeadlineRowView → Direction
access_holidays row = access_direction (direction_of row.period) row.grants
