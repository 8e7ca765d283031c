-- Where a derivation stands after a part of its reasons.
use Rattle.std.specs.Prelude.{ℤ, Bool, true, false, ◌&&◌, List, [], Option, Some, None}
use Rattle.court_clock.specs.Words.{ClockView}
use Rattle.court_days.specs.Words.{DaysView}
use Rattle.rule_periods.specs.declared.expiry.Expiry.{Expiry}
use Rattle.rule_periods.specs.declared.expiry.Expiry.TheVariants.{OnDay, AtInstant}
use Rattle.rule_periods.specs.declared.grant.Grant.{Grant}
use Rattle.rule_periods.specs.Words.{DeadlineRowView, goes_on_from_day, goes_on_from_instant, grant_fits, is_certain}
use Rattle.deadline_reasons.specs.declared.look.Look.{Look}
use Rattle.deadline_reasons.specs.declared.reason.Reason.{Reason}
use Rattle.deadline_reasons.specs.Derivation.{Lead}
use Rattle.deadline_reasons.specs.Standing.{ToCome, Aim, Standing, Unstarted, Looking, Runs, RunsUntil, MovedUntil, Nowhere, grants_behind}

-- reasons that led from nothing to one standing are followed by others that lead on to the next
abbrev pub LeadsOn : DaysView → ClockView → DeadlineRowView → List Reason → List Reason → Standing → Standing → Type 0
LeadsOn c clock row before after here next = Lead c clock row Unstarted before here → Lead c clock row Unstarted after next

-- where a derivation stands once a day was looked for
abbrev pub sought : Look → Aim → Option ℤ → Standing
sought look aim (Some d) = Looking d look aim
sought look aim None = Nowhere (grants_behind aim)

-- where it stands with a last day, or with an instant, or with none
abbrev pub with_day : Option ℤ → ToCome → Standing
with_day (Some last) rest = Runs last rest
with_day None rest = Nowhere rest.grants

abbrev pub with_instant : Option ℤ → List Grant → Standing
with_instant (Some end) grants = RunsUntil end grants
with_instant None grants = Nowhere grants

-- where it stands with an end of either kind, or with none
abbrev pub with_end : Option Expiry → List Grant → Standing
with_end (Some (OnDay last)) grants = Runs last (record { three = false; grants = grants })
with_end (Some (AtInstant end)) grants = RunsUntil end grants
with_end None grants = Nowhere grants

-- the extension, or the order, leads on from that end, in a period that is in hours, or isn't
abbrev pub leads : Bool → Option Expiry → Grant → Bool
leads hours (Some (OnDay last)) g = goes_on_from_day hours g
leads hours (Some (AtInstant end)) g = goes_on_from_instant hours g
leads hours None g = is_certain g && grant_fits hours g

-- the last day from which a period in days is extended by days, and the instant from which one in hours is by hours
abbrev pub last_day : Bool → Option Expiry → Option ℤ
last_day false (Some (OnDay last)) = Some last
last_day hours end = None

abbrev pub last_instant : Bool → Option Expiry → Option ℤ
last_instant true (Some (AtInstant end)) = Some end
last_instant hours end = None

-- where it stands with an instant, or none, to which an outage moved the time
abbrev pub moved_to : Option ℤ → Standing
moved_to (Some end) = MovedUntil end
moved_to None = Nowhere []
