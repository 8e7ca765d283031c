-- Which reason may follow, and how far it leads: one step of a derivation, by the rule that the reason names. Each
-- definition here is about one standing, and a reason that it doesn't name can't follow there.
use Rattle.std.specs.Prelude.{◌≡◌, ℕ, ◌*◌, ℤ, ◌+ℤ◌, Bool, true, false, ◌&&◌, List, [], ◌∷◌, Some, None}
use Rattle.std.specs.List.{list_any}
use Rattle.std.specs.Ordering.{int_eq}
use Rattle.court_clock.specs.declared.direction.Direction.{Direction}
use Rattle.court_clock.specs.declared.direction.Direction.TheVariants.{After}
use Rattle.court_clock.specs.Words.{ClockView, IsInstantSecond, counted_from, civil_of, instant_of, offset_seconds}
use Rattle.court_days.specs.Words.{DaysView, is_covered, is_open, is_permitted, has_outage}
use Rattle.rule6.specs.declared.timeliness.Act.{Act}
use Rattle.rule6.specs.declared.timeliness.Act.TheVariants as act
use Rattle.rule6.specs.declared.timeliness.Shown.TheVariants as shown
use Rattle.rule6.specs.Words.{next_day, hours_from, meets_last_hour}
use Rattle.rule_periods.specs.declared.grant.Grant.{Grant}
use Rattle.rule_periods.specs.declared.grant.Grant.TheVariants.{ByDays, ByHours, Until, Reset, ResetAt}
use Rattle.rule_periods.specs.declared.period.Length.{Length}
use Rattle.rule_periods.specs.declared.period.Length.TheVariants.{Days, Hours, ToDay, ToTime}
use Rattle.rule_periods.specs.Words.{DeadlineRowView, act_due, direction_of, goes_on_from_day, goes_on_from_instant, grant_fits, is_certain, is_in_hours}
use Rattle.deadline_reasons.specs.declared.look.Look.{Look}
use Rattle.deadline_reasons.specs.declared.reason.Reason.{Reason}
use Rattle.deadline_reasons.specs.declared.reason.Reason.TheVariants as reason
use Rattle.deadline_reasons.specs.Passing.{IsFirstCause, IsFirstOutage, away_from_event, for_access, day_later}
use Rattle.deadline_reasons.specs.Row.{length_of, event_day, adds_three, needs_access, access_holidays}
use Rattle.deadline_reasons.specs.Standing.{ToCome, Aim, LastDay, Hour, AccessibleDay, AccessibleHour, Standing, Unstarted, Counting, Looking, Runs, CountingHours, HoursEnd, RunsUntil, Moved, MovedUntil, Nowhere, Ended, grants_behind}

-- Days are counted from the day of the event, which is excluded (Fed. R. Civ. P. 6(a)(1)(A)); hours from its instant,
-- at once (6(a)(2)(A)). Up to a date certain, or a time of it, which an order sets, nothing is counted (2009 Note to
-- Fed. R. Civ. P. 6(a)).
abbrev pub Begins : ClockView → DeadlineRowView → Length → Reason → Standing → Type 0
Begins clock row (Days n) (reason.Excluded day) next =
    (day ≡ event_day row row.period) × (next ≡ Counting day n (direction_of row.period) (record { three = adds_three row row.period; grants = row.grants }))
Begins clock row (Hours h) (reason.HoursFrom instant) next =
    (instant ≡ instant_of clock.zone row.event.day (60 * row.event.minute)) × (next ≡ CountingHours instant h (direction_of row.period) row.grants)
Begins clock row ToDay (reason.Set day) next =
    (day ≡ row.event.day) × (next ≡ Runs day (record { three = false; grants = row.grants }))
Begins clock row ToTime (reason.SetAt instant) next =
    (instant ≡ instant_of clock.zone row.event.day (60 * row.event.minute)) × (next ≡ RunsUntil instant row.grants)
Begins clock row length r next = ⊥

-- Every day counts, and the last one is included (6(a)(1)(B), (C)).
abbrev pub Counts : DaysView → ℤ → ℕ → Direction → ToCome → Reason → Standing → Type 0
Counts c from n direction rest (reason.Counted days day) next =
    (days ≡ n) × (day ≡ counted_from from n direction) × (is_covered c day ≡ true) × (next ≡ Looking day (away_from_event direction) (LastDay rest))
Counts c from n direction rest reason.NotCovered next =
    (is_covered c (counted_from from n direction) ≡ false) × (next ≡ Nowhere rest.grants)
Counts c from n direction rest r next = ⊥

-- the day that was looked for is found
abbrev pub Finds : ClockView → ℤ → Aim → Reason → Standing → Type 0
Finds clock d (LastDay rest) (reason.RunsTo day) next = (day ≡ d) × (next ≡ Runs d rest)
Finds clock d (Hour second grants) (reason.SameTime day instant) next =
    (day ≡ d) × (instant ≡ instant_of clock.zone d second) × (next ≡ RunsUntil instant grants)
Finds clock d AccessibleDay (reason.RunsTo day) next = (day ≡ d) × (next ≡ Moved d)
Finds clock d (AccessibleHour second) (reason.SameTime day instant) next =
    (day ≡ d) × (instant ≡ instant_of clock.zone d second) × (next ≡ MovedUntil instant)
Finds clock d aim r next = ⊥

-- A covered day is passed over where there is a cause, and the next day is looked at; of several causes the first is
-- given. A day that is open is the one that was looked for (6(a)(1)(C), 6(a)(2)(C), 6(a)(3)).
abbrev pub Looks : DaysView → ClockView → ℤ → Look → Aim → Reason → Standing → Type 0
Looks c clock d look aim (reason.PassedOver day cause) next =
    (day ≡ d) × (is_covered c d ≡ true) × IsFirstCause c look d cause × (next ≡ Looking (next_day look.going d) look aim)
Looks c clock d look aim reason.NotCovered next = (is_covered c d ≡ false) × (next ≡ Nowhere (grants_behind aim))
Looks c clock d look aim r next = (is_open c look.holidays look.accessible d ≡ true) × Finds clock d aim r next

-- The last day ends at midnight for service. For filing it ends by electronic means at midnight, or at the minute that a local rule
-- sets, and by others when the clerk's office is scheduled to close (6(a)(4)).
abbrev pub Closes : ClockView → Act → ℤ → Reason → Standing → Type 0
Closes clock act.Service last (reason.UntilMidnight day) next = (day ≡ last) × (next ≡ Ended (shown.Last last act.Service))
Closes clock act.Filing last (reason.UntilClosing day closes until) next =
    (day ≡ last) × (closes ≡ clock.closes) × (until ≡ clock.efiling_until) × (next ≡ Ended (shown.Last last act.Filing))
Closes clock a last r next = ⊥

-- From a last day first three days are counted where the service adds them (6(d)), then each extension in turn (6(b),
-- 4(m)); an order may set another day, or an instant, in place of the day so far. Then, for filing, an outage on the last day moves the
-- time (6(a)(3)(A)); of several outages the first is given. Without one the time ends.
abbrev pub GoesOn : DaysView → ClockView → DeadlineRowView → ℤ → Bool → List Grant → Reason → Standing → Type 0
GoesOn c clock row last true grants (reason.ThreeAdded kind) next =
    (row.service ≡ Some kind) × (next ≡ Counting last 3 After (record { three = false; grants = grants }))
GoesOn c clock row last false (ByDays n ∷ grants) (reason.Extended grant) next =
    (grant ≡ ByDays n) × (is_in_hours row.period ≡ false) × (next ≡ Counting last n After (record { three = false; grants = grants }))
GoesOn c clock row last false (Until d ∷ grants) (reason.Extended grant) next =
    (grant ≡ Until d) × (is_in_hours row.period ≡ false) × (next ≡ Runs d (record { three = false; grants = grants }))
GoesOn c clock row last false (Reset d ∷ grants) (reason.Extended grant) next =
    (grant ≡ Reset d) × (next ≡ Runs d (record { three = false; grants = grants }))
GoesOn c clock row last false (ResetAt at ∷ grants) (reason.Extended grant) next =
    (grant ≡ ResetAt at) × (next ≡ RunsUntil (instant_of clock.zone at.day (60 * at.minute)) grants)
GoesOn c clock row last false (g ∷ grants) (reason.NotExtended grant) next =
    (grant ≡ g) × (goes_on_from_day (is_in_hours row.period) g ≡ false) × (next ≡ Nowhere grants)
GoesOn c clock row last false [] (reason.Inaccessible outage) next =
    (needs_access row ≡ true) × IsFirstOutage (λ o. int_eq o.day last) c.outages outage × (outage.day ≡ last) × (next ≡ Looking (day_later c last) (for_access (access_holidays row)) AccessibleDay)
GoesOn c clock row last false [] r next =
    ((needs_access row && has_outage c last) ≡ false) × Closes clock (act_due row) last r next
GoesOn c clock row last three grants r next = ⊥

-- Every hour counts, also over a change of the clocks (6(a)(2)(B)). Where no instant lies that many hours away, the clock
-- shows no `Day`, so no day is covered there.
abbrev pub CountsHours : ClockView → ℤ → ℕ → Direction → List Grant → Reason → Standing → Type 0
CountsHours clock from h direction grants (reason.HoursCounted hours instant forward) next =
    (hours ≡ h) × (instant ≡ hours_from from h direction) × (offset_seconds clock.zone instant ≡ offset_seconds clock.zone from +ℤ forward) × IsInstantSecond instant × (next ≡ HoursEnd instant direction grants)
CountsHours clock from h direction grants reason.NotCovered next =
    (IsInstantSecond (hours_from from h direction) → ⊥) × (civil_of clock.zone (hours_from from h direction) ≡ None) × (next ≡ Nowhere grants)
CountsHours clock from h direction grants r next = ⊥

-- Hours that end on an open day end there; from another day they are continued to the same time on the next one
-- (6(a)(2)(C)).
abbrev pub EndsHours : DaysView → ClockView → ℤ → Direction → List Grant → Reason → Standing → Type 0
EndsHours c clock end direction grants (reason.EndsOn day) next =
    ((second : ℕ) × (civil_of clock.zone end ≡ Some (record { day = day; second = second }))) × (is_permitted c direction day ≡ true) × (next ≡ RunsUntil end grants)
EndsHours c clock end direction grants (reason.Continued day second) next =
    (civil_of clock.zone end ≡ Some (record { day = day; second = second })) × (is_permitted c direction day ≡ false) × (next ≡ Looking day (away_from_event direction) (Hour second grants))
EndsHours c clock end direction grants reason.NotCovered next = (civil_of clock.zone end ≡ None) × (next ≡ Nowhere grants)
EndsHours c clock end direction grants r next = ⊥

-- From an instant each extension goes on in turn (6(b)); an order may set another instant, or a day, in its place. Then, for filing,
-- an outage in the last hour moves the time (6(a)(3)(B)); of several outages the first is given. Without one the time
-- ends.
abbrev pub GoesOnUntil : DaysView → ClockView → DeadlineRowView → ℤ → List Grant → Reason → Standing → Type 0
GoesOnUntil c clock row end (ByHours h ∷ grants) (reason.Extended grant) next =
    (grant ≡ ByHours h) × (is_in_hours row.period ≡ true) × (next ≡ CountingHours end h After grants)
GoesOnUntil c clock row end (Until d ∷ grants) (reason.Extended grant) next =
    (grant ≡ Until d) × (is_in_hours row.period ≡ false) × (next ≡ Runs d (record { three = false; grants = grants }))
GoesOnUntil c clock row end (Reset d ∷ grants) (reason.Extended grant) next =
    (grant ≡ Reset d) × (next ≡ Runs d (record { three = false; grants = grants }))
GoesOnUntil c clock row end (ResetAt at ∷ grants) (reason.Extended grant) next =
    (grant ≡ ResetAt at) × (next ≡ RunsUntil (instant_of clock.zone at.day (60 * at.minute)) grants)
GoesOnUntil c clock row end (g ∷ grants) (reason.NotExtended grant) next =
    (grant ≡ g) × (goes_on_from_instant (is_in_hours row.period) g ≡ false) × (next ≡ Nowhere grants)
GoesOnUntil c clock row end [] (reason.LastHour outage day second) next =
    (needs_access row ≡ true) × IsFirstOutage (meets_last_hour clock end) c.outages outage × (meets_last_hour clock end outage ≡ true) × (civil_of clock.zone end ≡ Some (record { day = day; second = second })) × (next ≡ Looking (day_later c day) (for_access (access_holidays row)) (AccessibleHour second))
GoesOnUntil c clock row end [] reason.NotCovered next =
    ((needs_access row && list_any (meets_last_hour clock end) c.outages) ≡ true) × (civil_of clock.zone end ≡ None) × (next ≡ Nowhere [])
GoesOnUntil c clock row end [] (reason.UntilInstant instant) next =
    ((needs_access row && list_any (meets_last_hour clock end) c.outages) ≡ false) × (instant ≡ end) × (next ≡ Ended (shown.Until end))
GoesOnUntil c clock row end grants r next = ⊥

-- the instant to which an outage moved the time
abbrev pub ClosesAt : ℤ → Reason → Standing → Type 0
ClosesAt end (reason.UntilInstant instant) next = (instant ≡ end) × (next ≡ Ended (shown.Until end))
ClosesAt end r next = ⊥

-- Where a day that was needed isn't covered, only an extension to a date certain gives an end, or an order that sets one.
abbrev pub Lacks : ClockView → DeadlineRowView → List Grant → Reason → Standing → Type 0
Lacks clock row (Until d ∷ grants) (reason.Extended grant) next =
    (grant ≡ Until d) × (is_in_hours row.period ≡ false) × (next ≡ Runs d (record { three = false; grants = grants }))
Lacks clock row (Reset d ∷ grants) (reason.Extended grant) next =
    (grant ≡ Reset d) × (next ≡ Runs d (record { three = false; grants = grants }))
Lacks clock row (ResetAt at ∷ grants) (reason.Extended grant) next =
    (grant ≡ ResetAt at) × (next ≡ RunsUntil (instant_of clock.zone at.day (60 * at.minute)) grants)
Lacks clock row (g ∷ grants) (reason.NotExtended grant) next =
    (grant ≡ g) × ((is_certain g && grant_fits (is_in_hours row.period) g) ≡ false) × (next ≡ Nowhere grants)
Lacks clock row [] reason.Beyond next = next ≡ Ended shown.Beyond
Lacks clock row grants r next = ⊥

-- from where a derivation stands, this reason leads to where it stands next
abbrev pub Follows : DaysView → ClockView → DeadlineRowView → Standing → Reason → Standing → Type 0
Follows c clock row Unstarted r next = Begins clock row (length_of row row.period) r next
Follows c clock row (Counting from n direction rest) r next = Counts c from n direction rest r next
Follows c clock row (Looking d look aim) r next = Looks c clock d look aim r next
Follows c clock row (Runs last rest) r next = GoesOn c clock row last rest.three rest.grants r next
Follows c clock row (CountingHours from h direction grants) r next = CountsHours clock from h direction grants r next
Follows c clock row (HoursEnd end direction grants) r next = EndsHours c clock end direction grants r next
Follows c clock row (RunsUntil end grants) r next = GoesOnUntil c clock row end grants r next
Follows c clock row (Moved d) r next = Closes clock (act_due row) d r next
Follows c clock row (MovedUntil end) r next = ClosesAt end r next
Follows c clock row (Nowhere grants) r next = Lacks clock row grants r next
Follows c clock row (Ended shown) r next = ⊥
