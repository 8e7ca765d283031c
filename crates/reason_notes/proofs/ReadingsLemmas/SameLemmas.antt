-- A deadline as one that is entered, with its own act, shows what it shows.
use Rattle.std.proofs.Common.{◌≡◌, ℤ, Bool, true, false, ◌&&◌, List, fold, Option, Some, None, ap, refl}
use Rattle.std.proofs.lemmas.Bool.{and_parts}
use Rattle.court_clock.specs.declared.direction.Direction.TheVariants.{After}
use Rattle.court_clock.specs.Words.{ClockView}
use Rattle.court_days.specs.Words.{DaysView}
use Rattle.rule6.specs.declared.service.ServiceKind.{ServiceKind}
use Rattle.rule6.specs.declared.timeliness.Filing.{Filing}
use Rattle.rule_periods.specs.declared.grant.Grant.{Grant}
use Rattle.rule_periods.specs.declared.period.Period.{Period}
use Rattle.rule_periods.specs.declared.period.Period.TheVariants as period
use Rattle.rule_periods.specs.declared.rule.RulePeriod.TheVariants.{Rule4m, Rule12a1Ai, Rule12a1AiiUs, Rule12a1AiiAbroad, Rule12a1B, Rule12a1C, Rule12a2, Rule12a3, Rule59b, Rule59e}
use Rattle.rule_periods.specs.Words.{DeadlineRowView, EventView, access_direction, act_due, base_of, base_of_period, end_of_length, end_of_rule, certain_by, extended_of, granted_if_it_fits, is_hour_length, kind_adds, shown_after, shown_of, suits}
use Rattle.reason_notes.specs.Readings.Changed.{kind_kept, with_act}

abbrev row_of : Period → EventView → Option ℤ → Option ServiceKind → List Grant → Option Filing → DeadlineRowView
row_of p event second service grants filed =
    record { period = p; event = event; second = second; service = service; grants = grants; filed = filed }

abbrev again : DeadlineRowView → DeadlineRowView
again row = with_act (act_due row) row

-- a period that takes no second day has none
no_second : (kind : Bool) → (kind && false) ≡ true → ⊥
no_second kind both = absurd cc (and_parts kind false both).1

-- a kind of service that isn't kept adds nothing
kept_adds : (served : Bool) (service : Option ServiceKind) (day : ℤ) → (served && kind_adds (kind_kept served service) day) ≡ (served && kind_adds service day)
kept_adds true service day = refl
kept_adds false service day = refl

same_base : (c : DaysView) (clock : ClockView) (p : Period) (event : EventView) (second : Option ℤ) (service : Option ServiceKind) (grants : List Grant) (filed : Option Filing) → suits p second service ≡ true → base_of c clock (again (row_of p event second service grants filed)) ≡ base_of c clock (row_of p event second service grants filed)
unfolding base_of_period end_of_rule end_of_length
same_base c clock (period.Rule Rule4m) event second service grants filed suits_it = refl
same_base c clock (period.Rule Rule12a1Ai) event second service grants filed suits_it = refl
same_base c clock (period.Rule Rule12a1AiiUs) event second service grants filed suits_it = refl
same_base c clock (period.Rule Rule12a1AiiAbroad) event second service grants filed suits_it = refl
same_base c clock (period.Rule Rule12a1B) event None service grants filed suits_it = refl
same_base c clock (period.Rule Rule12a1B) event (Some d) service grants filed suits_it = absurd (no_second _ suits_it)
same_base c clock (period.Rule Rule12a1C) event None service grants filed suits_it = refl
same_base c clock (period.Rule Rule12a1C) event (Some d) service grants filed suits_it = absurd (no_second _ suits_it)
same_base c clock (period.Rule Rule12a2) event second service grants filed suits_it = refl
same_base c clock (period.Rule Rule12a3) event second service grants filed suits_it = refl
same_base c clock (period.Rule Rule59b) event second service grants filed suits_it = refl
same_base c clock (period.Rule Rule59e) event second service grants filed suits_it = refl
same_base c clock (period.Entered e) event None service grants filed suits_it =
    ap (λ added. end_of_length c clock event e.length e.direction added) (kept_adds e.served service event.day)
same_base c clock (period.Entered e) event (Some d) service grants filed suits_it = absurd (no_second _ suits_it)

same_shown : (c : DaysView) (clock : ClockView) (p : Period) (event : EventView) (second : Option ℤ) (service : Option ServiceKind) (grants : List Grant) (filed : Option Filing) → suits p second service ≡ true → shown_of c clock (again (row_of p event second service grants filed)) ≡ shown_of c clock (row_of p event second service grants filed)
unfolding shown_of extended_of
same_shown c clock (period.Rule rule) event second service grants filed suits_it =
    ap (λ base. shown_after c clock (act_due (row_of (period.Rule rule) event second service grants filed)) (certain_by (period.Rule rule) grants) (access_direction After grants) (fold (granted_if_it_fits c clock false) base grants)) (same_base c clock (period.Rule rule) event second service grants filed suits_it)
same_shown c clock (period.Entered e) event second service grants filed suits_it =
    ap (λ base. shown_after c clock e.act (certain_by (period.Entered e) grants) (access_direction e.direction grants) (fold (granted_if_it_fits c clock (is_hour_length e.length)) base grants)) (same_base c clock (period.Entered e) event second service grants filed suits_it)

pub same_act : (c : DaysView) (clock : ClockView) (row : DeadlineRowView) → suits row.period row.second row.service ≡ true → shown_of c clock (again row) ≡ shown_of c clock row
same_act c clock row suits_it =
    same_shown c clock row.period row.event row.second row.service row.grants row.filed suits_it
