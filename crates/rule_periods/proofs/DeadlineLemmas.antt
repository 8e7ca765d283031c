-- One more extension.
use Rattle.std.proofs.Common.{◌≡◌, ◌-◌, ◌&&◌, ℤ, Bool, true, false, Option, None, List, [], ◌∷◌, ◌++◌, length, slice_get, fold, Some, refl, ap, ◌∙◌, arith, length-append}
use Rattle.std.specs.List.{list_all}
use Rattle.std.specs.Option.{option_map_or}
use Rattle.std.proofs.lemmas.List.Folds.{list_all-append}
use Rattle.std.proofs.lemmas.List.Sums.{fold_push}
use Rattle.court_clock.specs.declared.direction.Direction.{Direction}
use Rattle.court_clock.specs.Words.{ClockView}
use Rattle.court_days.specs.Words.{DaysView}
use Rattle.court_clock.specs.declared.direction.Direction.TheVariants.{After}
use Rattle.rule_periods.specs.declared.grant.Grant.{Grant}
use Rattle.rule_periods.specs.declared.period.Period.{Period}
use Rattle.rule_periods.specs.declared.period.Period.TheVariants as period
use Rattle.rule_periods.specs.Base.{base_of, base_of_period, end_of_rule}
use Rattle.rule6.specs.declared.service.ServiceKind.{ServiceKind}
use Rattle.rule_periods.specs.Deadline.{DeadlineRowView, second_anew, with_grant}
use Rattle.rule_periods.specs.Due.{act_due}
use Rattle.rule_periods.specs.Extended.{extended_of, granted_if_it_fits}
use Rattle.rule_periods.specs.Grant.{is_certain}
use Rattle.rule_periods.specs.Period.{direction_of, is_in_hours, is_kind_for, is_kind_for_entered, is_second_for, is_set, suits}
use Rattle.rule_periods.specs.Rule.{service_rule_of, takes_second_day}
use Rattle.rule_periods.specs.Showing.{certain_by, access_direction, shown_after, shown_of}

-- a deadline that runs anew has a second day where it had one
anew_second : (takes : Bool) (second : Option ℤ) (day : ℤ) → is_second_for takes (second_anew second day) ≡ is_second_for takes second
anew_second true None day = refl
anew_second false None day = refl
anew_second true (Some d) day = refl
anew_second false (Some d) day = refl

-- so that its days suit its period
pub anew_suits : (period : Period) (second : Option ℤ) (kind : Option ServiceKind) (day : ℤ) → suits period second kind ≡ true → suits period (second_anew second day) kind ≡ true
anew_suits (period.Rule rule) second kind day is = ap (λ (b : Bool). is_kind_for (service_rule_of rule) kind && b) (anew_second (takes_second_day rule) second day) ∙ is
anew_suits (period.Entered entered) second kind day is = ap (λ (b : Bool). is_kind_for_entered entered kind && b) (anew_second false second day) ∙ is

-- a test that all pass, and one more passes
pub all_push : (test : Grant → Bool) (grants : List Grant) (grant : Grant) → list_all test grants ≡ true → test grant ≡ true → list_all test (grants ++ grant ∷ []) ≡ true
all_push test grants grant all one = rw (list_all-append test grants (grant ∷ []), all, one) refl

at_end : (grants : List Grant) (grant : Grant) → slice_get (grants ++ grant ∷ []) (length grants) ≡ Some grant
at_end [] grant = refl
at_end (g ∷ grants) grant = at_end grants grant

last-push : (grants : List Grant) (grant : Grant) → slice_get (grants ++ grant ∷ []) (length (grants ++ grant ∷ []) - 1) ≡ Some grant
last-push grants grant =
    let place : length (grants ++ grant ∷ []) - 1 ≡ length grants = rw length-append (omega arith) in
    rw place (at_end grants grant)

access_direction-push : (direction : Direction) (grants : List Grant) (grant : Grant) → access_direction direction (grants ++ grant ∷ []) ≡ After
access_direction-push direction [] grant = refl
access_direction-push direction (g ∷ grants) grant = refl

-- the end before any extension doesn't depend on the extensions
base_of-grants : (c : DaysView) (clock : ClockView) (row : DeadlineRowView) (grant : Grant) (period : Period) → base_of_period c clock (with_grant row grant) period ≡ base_of_period c clock row period
unfolding base_of_period end_of_rule
base_of-grants c clock row grant (period.Rule rule) = refl
base_of-grants c clock row grant (period.Entered entered) = refl

-- the end with one more extension
extended_of-push : (c : DaysView) (clock : ClockView) (row : DeadlineRowView) (grant : Grant) → extended_of c clock (with_grant row grant) ≡ granted_if_it_fits c clock (is_in_hours row.period) (extended_of c clock row) grant
unfolding extended_of
extended_of-push c clock row grant =
    let more = granted_if_it_fits c clock (is_in_hours row.period) in
    ap (λ b. fold more b (row.grants ++ grant ∷ [])) (base_of-grants c clock row grant row.period)
    ∙ fold_push more (base_of c clock row) row.grants grant

-- what is shown with one more extension is what is shown after it
pub shown_of-push : (c : DaysView) (clock : ClockView) (row : DeadlineRowView) (grant : Grant) → shown_of c clock (with_grant row grant) ≡ shown_after c clock (act_due row) (is_certain grant) After (granted_if_it_fits c clock (is_in_hours row.period) (extended_of c clock row) grant)
unfolding shown_of
shown_of-push c clock row grant =
    let certain : certain_by row.period (row.grants ++ grant ∷ []) ≡ is_certain grant = ap (λ g. option_map_or is_certain g (is_set row.period)) (last-push row.grants grant) in
    let direction = access_direction-push (direction_of row.period) row.grants grant in
    rw (certain, direction, extended_of-push c clock row grant) refl
