-- When the time of a deadline ends before any extension.
use Rattle.std.specs.Prelude.{◌*◌, Bool, true, false, ◌&&◌, ℤ, option_map, Option, Some, None}
use Rattle.court_clock.specs.declared.direction.Direction.{Direction}
use Rattle.court_clock.specs.declared.direction.Direction.TheVariants.{After}
use Rattle.court_clock.specs.Words.{ClockView, instant_of, later_day}
use Rattle.court_days.specs.Words.{DaysView}
use Rattle.rule6.specs.declared.service.ServiceKind.{ServiceKind}
use Rattle.rule6.specs.Words.{last_day_of, end_of_hours_from, adds_three_days}
use Rattle.rule_periods.specs.declared.expiry.Expiry.{Expiry}
use Rattle.rule_periods.specs.declared.expiry.Expiry.TheVariants.{OnDay, AtInstant}
use Rattle.rule_periods.specs.declared.period.Length.{Length}
use Rattle.rule_periods.specs.declared.period.Length.TheVariants.{Days, Hours, ToDay, ToTime}
use Rattle.rule_periods.specs.declared.period.Period.{Period}
use Rattle.rule_periods.specs.declared.period.Period.TheVariants as period
use Rattle.rule_periods.specs.declared.rule.RulePeriod.{RulePeriod}
use Rattle.rule_periods.specs.declared.rule.ServiceRule.{ServiceRule}
use Rattle.rule_periods.specs.declared.rule.ServiceRule.TheVariants as service
use Rattle.rule_periods.specs.Deadline.{DeadlineRowView}
use Rattle.rule_periods.specs.Event.{EventView}
use Rattle.rule_periods.specs.Rule.{terms_of, service_rule_of}

-- a kind of service that was given adds three days (Fed. R. Civ. P. 6(d))
abbrev pub kind_adds : Option ServiceKind → ℤ → Bool
kind_adds None served = false
kind_adds (Some kind) served = adds_three_days kind served

-- three days are added only where the period runs from service under Rule 5(b)(2)
abbrev pub runs_from_service : ServiceRule → Bool
runs_from_service service.None = false
runs_from_service service.Required = true
runs_from_service service.MayBeNoted = false

-- the event of a period that takes a second day is the later of the two
abbrev pub later_event : ℤ → Option ℤ → ℤ
later_event event None = event
later_event event (Some second) = later_day event second

-- when a period that the Rules set ends
unfoldable pub end_of_rule : DaysView → DeadlineRowView → RulePeriod → Option Expiry
end_of_rule c row rule =
    let day = later_event row.event.day row.second in
    option_map OnDay (last_day_of c day (terms_of rule day).days After
    (runs_from_service (service_rule_of rule) && kind_adds row.service row.event.day))

-- when an entered length ends that is measured from an event
unfoldable pub end_of_length : DaysView → ClockView → EventView → Length → Direction → Bool → Option Expiry
end_of_length c clock event (Days n) direction added = option_map OnDay (last_day_of c event.day n direction added)
end_of_length c clock event (Hours h) direction added =
    option_map AtInstant (end_of_hours_from c clock (instant_of clock.zone event.day (60 * event.minute)) h direction)
-- an order sets the end on the day of the event, or at its minute by the court's clock: nothing is counted, and it isn't rolled
-- (2009 Note to Fed. R. Civ. P. 6(a))
end_of_length c clock event ToDay direction added = Some (OnDay event.day)
end_of_length c clock event ToTime direction added = Some (AtInstant (instant_of clock.zone event.day (60 * event.minute)))

-- when the time ends before any extension
unfoldable pub base_of_period : DaysView → ClockView → DeadlineRowView → Period → Option Expiry
base_of_period c clock row (period.Rule rule) = end_of_rule c row rule
base_of_period c clock row (period.Entered entered) =
    end_of_length c clock row.event entered.length entered.direction (entered.served && kind_adds row.service row.event.day)

abbrev pub base_of : DaysView → ClockView → DeadlineRowView → Option Expiry
base_of c clock row = base_of_period c clock row row.period
