-- What the definitions of Rule 6 give from where a derivation stands.
use Rattle.std.proofs.Common.{ℤ, Bool, true, false, List, fold, Option, Some, None, option_map}
use Rattle.std.specs.Option.{option_and_then}
use Rattle.court_clock.specs.declared.direction.Direction.TheVariants.{After}
use Rattle.court_clock.specs.Words.{ClockView, civil_of}
use Rattle.court_days.specs.Words.{DaysView}
use Rattle.rule6.specs.declared.timeliness.Shown.{Shown}
use Rattle.rule6.specs.Words.{expiry_of, same_time_on, continued, end_of_hours_from}
use Rattle.rule_periods.specs.declared.expiry.Expiry.{Expiry}
use Rattle.rule_periods.specs.declared.expiry.Expiry.TheVariants.{OnDay, AtInstant}
use Rattle.rule_periods.specs.declared.grant.Grant.{Grant}
use Rattle.rule_periods.specs.Words.{DeadlineRowView, act_due, is_in_hours, certain_by, granted_if_it_fits, shown_end, shown_after, shown_of}
use Rattle.deadline_reasons.specs.Row.{access_holidays}
use Rattle.deadline_reasons.specs.Standing.{ToCome, Aim, LastDay, Hour, AccessibleDay, AccessibleHour, Standing, Unstarted, Counting, Looking, Runs, CountingHours, HoursEnd, RunsUntil, Moved, MovedUntil, Nowhere, Ended}
use Rattle.deadline_reasons.proofs.PassingLemmas.{found_by}

-- an end after which these extensions come
abbrev pub with_grants : DaysView → ClockView → DeadlineRowView → Option Expiry → List Grant → Shown
with_grants c clock row end grants =
    shown_after c clock (act_due row) (certain_by row.period row.grants) (access_holidays row) (fold (granted_if_it_fits c clock (is_in_hours row.period)) end grants)

abbrev pub three_more : DaysView → Bool → Option ℤ → Option ℤ
three_more c false last = last
three_more c true last = option_and_then (λ d. expiry_of c d 3 After) last

-- a last day after which this is to come
abbrev pub with_rest : DaysView → ClockView → DeadlineRowView → Option ℤ → ToCome → Shown
with_rest c clock row last rest = with_grants c clock row (option_map OnDay (three_more c rest.three last)) rest.grants

-- the day that was looked for
abbrev pub reached : DaysView → ClockView → DeadlineRowView → Aim → Option ℤ → Shown
reached c clock row (LastDay rest) day = with_rest c clock row day rest
reached c clock row (Hour second grants) day = with_grants c clock row (option_map AtInstant (same_time_on clock second day)) grants
reached c clock row AccessibleDay day = shown_end (act_due row) (option_map OnDay day)
reached c clock row (AccessibleHour second) day = shown_end (act_due row) (option_map AtInstant (same_time_on clock second day))

abbrev pub answer_from : DaysView → ClockView → DeadlineRowView → Standing → Shown
answer_from c clock row Unstarted = shown_of c clock row
answer_from c clock row (Counting from n direction rest) = with_rest c clock row (expiry_of c from n direction) rest
answer_from c clock row (Looking d look aim) = reached c clock row aim (found_by c look d)
answer_from c clock row (Runs last rest) = with_rest c clock row (Some last) rest
answer_from c clock row (CountingHours from h direction grants) =
    with_grants c clock row (option_map AtInstant (end_of_hours_from c clock from h direction)) grants
answer_from c clock row (HoursEnd end direction grants) =
    with_grants c clock row (option_map AtInstant (option_and_then (continued c clock direction end) (civil_of clock.zone end))) grants
answer_from c clock row (RunsUntil end grants) = with_grants c clock row (Some (AtInstant end)) grants
answer_from c clock row (Moved d) = shown_end (act_due row) (Some (OnDay d))
answer_from c clock row (MovedUntil end) = shown_end (act_due row) (Some (AtInstant end))
answer_from c clock row (Nowhere grants) = with_grants c clock row None grants
answer_from c clock row (Ended shown) = shown
