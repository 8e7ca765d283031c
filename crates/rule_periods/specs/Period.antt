-- What a period is: its act, its side of the event, and how it may be extended.
use Rattle.std.specs.Prelude.{ℕ, ℤ, Bool, true, false, nat_le, ◌&&◌, not, Option, Some, None, if◌then◌else◌}
use Rattle.court_clock.specs.declared.direction.Direction.{Direction}
use Rattle.court_clock.specs.declared.direction.Direction.TheVariants.{After, Before}
use Rattle.rule6.specs.declared.timeliness.Act.{Act}
use Rattle.rule6.specs.declared.service.ServiceKind.{ServiceKind}
use Rattle.rule_periods.specs.declared.period.Entered.{Entered}
use Rattle.rule_periods.specs.declared.period.Length.{Length}
use Rattle.rule_periods.specs.declared.period.Length.TheVariants.{Days, Hours, ToDay, ToTime}
use Rattle.rule_periods.specs.declared.mark.Mark.{Mark}
use Rattle.rule_periods.specs.declared.mark.Mark.TheVariants as mark
use Rattle.rule_periods.specs.declared.period.Period.{Period}
use Rattle.rule_periods.specs.declared.period.Period.TheVariants as period
use Rattle.rule_periods.specs.declared.rule.ExtensionRule.{ExtensionRule}
use Rattle.rule_periods.specs.declared.rule.ExtensionRule.TheVariants.{GoodCause, Never}
use Rattle.rule_periods.specs.declared.rule.ServiceRule.{ServiceRule}
use Rattle.rule_periods.specs.declared.rule.ServiceRule.TheVariants as service
use Rattle.rule_periods.specs.Rule.{terms_of, service_rule_of, takes_second_day}

-- what must be done in time, by the day from which the period runs
abbrev pub act_of : Period → ℤ → Act
act_of (period.Rule rule) day = (terms_of rule day).act
act_of (period.Entered entered) day = entered.act

-- on which side of its event it lies; the periods that the Rules set are measured after it
abbrev pub direction_of : Period → Direction
direction_of (period.Rule rule) = After
direction_of (period.Entered entered) = entered.direction

-- an entered period may be extended for good cause, unless a rule whose time must not be extended is its mark
abbrev pub extension_of_mark : Mark → ExtensionRule
extension_of_mark mark.Plain = GoodCause
extension_of_mark mark.Rule50b = Never
extension_of_mark mark.Rule50d = Never
extension_of_mark mark.Rule52b = Never
extension_of_mark mark.Rule59b = Never
extension_of_mark mark.Rule59d = Never
extension_of_mark mark.Rule59e = Never
extension_of_mark mark.Rule60b = Never

-- how it may be extended, by the day from which it runs
abbrev pub extension_of : Period → ℤ → ExtensionRule
extension_of (period.Rule rule) day = (terms_of rule day).extension
extension_of (period.Entered entered) day = extension_of_mark entered.mark

-- a length that ends at an instant: one in hours, or up to a time of day that an order sets
abbrev pub is_hour_length : Length → Bool
is_hour_length (Days n) = false
is_hour_length (Hours h) = true
is_hour_length ToDay = false
is_hour_length ToTime = true

-- a length in days, which are counted
abbrev pub is_day_length : Length → Bool
is_day_length (Days n) = true
is_day_length (Hours h) = false
is_day_length ToDay = false
is_day_length ToTime = false

-- an order sets the end: a date certain, up to which nothing is counted
abbrev pub is_set_length : Length → Bool
is_set_length (Days n) = false
is_set_length (Hours h) = false
is_set_length ToDay = true
is_set_length ToTime = true

-- a period that ends at an instant
abbrev pub is_in_hours : Period → Bool
is_in_hours (period.Rule rule) = false
is_in_hours (period.Entered entered) = is_hour_length entered.length

-- a period whose end an order sets
abbrev pub is_set : Period → Bool
is_set (period.Rule rule) = false
is_set (period.Entered entered) = is_set_length entered.length

-- a length of 1 to 3,650 days or 1 to 8,760 hours, or none where an order sets the end
abbrev pub is_days : ℕ → Bool
is_days n = nat_le 1 n && nat_le n 3650

abbrev pub is_hour_count : ℕ → Bool
is_hour_count h = nat_le 1 h && nat_le h 8760

abbrev pub is_length : Length → Bool
is_length (Days n) = is_days n
is_length (Hours h) = is_hour_count h
is_length ToDay = true
is_length ToTime = true

abbrev pub has_length : Period → Bool
has_length (period.Rule rule) = true
has_length (period.Entered entered) = is_length entered.length

-- measured after its event
abbrev pub is_after : Direction → Bool
is_after After = true
is_after Before = false

-- a value is given
abbrev pub is_given : {A : Type 0} → Option A → Bool
is_given None = false
is_given (Some x) = true

-- a kind of service, as the rule of the table asks for it
abbrev pub is_kind_for : ServiceRule → Option ServiceKind → Bool
is_kind_for service.None None = true
is_kind_for service.None (Some kind) = false
is_kind_for service.Required None = false
is_kind_for service.Required (Some kind) = true
is_kind_for service.MayBeNoted kind = true

-- a second day, where the period asks for one
abbrev pub is_second_for : Bool → Option ℤ → Bool
is_second_for false None = true
is_second_for false (Some d) = false
is_second_for true None = false
is_second_for true (Some d) = true

-- An entered period may run from service only if it is counted in days after it, and then the kind of service is given.
-- For another no kind is given.
abbrev pub is_kind_for_entered : Entered → Option ServiceKind → Bool
is_kind_for_entered entered kind =
    if entered.served then is_given kind && (is_after entered.direction && is_day_length entered.length) else not (is_given kind)

-- the kind of service and the second day suit the period
abbrev pub suits : Period → Option ℤ → Option ServiceKind → Bool
suits (period.Rule rule) second kind = is_kind_for (service_rule_of rule) kind && is_second_for (takes_second_day rule) second
suits (period.Entered entered) second kind = is_kind_for_entered entered kind && is_second_for false second
