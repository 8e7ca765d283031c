-- From where a derivation stands one reason follows and no other, so a deadline has one derivation.
use Rattle.std.proofs.Common.{◌≡◌, ℕ, ◌*◌, ℤ, ◌+ℤ◌, Bool, true, false, ◌&&◌, List, [], ◌∷◌, Option, Some, None, option_map, if◌then◌else◌, refl, sym, ◌∙◌, ap, subst, arith}
use Rattle.std.specs.List.{find, list_any}
use Rattle.std.specs.Ordering.{int_eq}
use Rattle.std.proofs.lemmas.Int.{ints}
use Rattle.court_clock.specs.declared.direction.Direction.{Direction}
use Rattle.court_clock.specs.declared.direction.Direction.TheVariants.{After}
use Rattle.court_clock.specs.Words.{ClockView, IsInstantSecond, counted_from, CivilTime, civil_of, instant_of, offset_seconds}
use Rattle.court_days.specs.Words.{DaysView, is_covered, is_open, is_permitted, has_outage}
use Rattle.rule6.specs.declared.timeliness.Act.{Act}
use Rattle.rule6.specs.declared.timeliness.Act.TheVariants as act
use Rattle.rule6.specs.declared.timeliness.Shown.{Shown}
use Rattle.rule6.specs.declared.timeliness.Shown.TheVariants as shown
use Rattle.rule6.specs.Words.{next_day, meets_last_hour}
use Rattle.rule_periods.specs.declared.grant.Grant.{Grant}
use Rattle.rule_periods.specs.declared.grant.Grant.TheVariants.{ByDays, ByHours, Until, Reset, ResetAt}
use Rattle.rule_periods.specs.declared.period.Length.{Length}
use Rattle.rule_periods.specs.declared.period.Length.TheVariants.{Days, Hours, ToDay, ToTime}
use Rattle.rule_periods.specs.Words.{DeadlineRowView, act_due, direction_of, goes_on_from_day, goes_on_from_instant, grant_fits, is_certain, is_in_hours}
use Rattle.deadline_reasons.specs.declared.look.Look.{Look}
use Rattle.deadline_reasons.specs.declared.reason.Reason.{Reason}
use Rattle.deadline_reasons.specs.declared.reason.Reason.TheVariants as reason
use Rattle.deadline_reasons.specs.Passing.{first_cause, away_from_event, for_access, day_later}
use Rattle.deadline_reasons.specs.Row.{length_of, event_day, adds_three, needs_access, access_holidays}
use Rattle.deadline_reasons.specs.Standing.{ToCome, Aim, LastDay, Hour, AccessibleDay, AccessibleHour, Standing, Unstarted, Counting, Looking, Runs, CountingHours, HoursEnd, RunsUntil, Moved, MovedUntil, Nowhere, Ended, grants_behind}
use Rattle.deadline_reasons.specs.Derivation.{Lead, DeadlinesHaveOneDerivation}
use Rattle.deadline_reasons.specs.Follows.{Begins, Counts, Finds, Looks, Closes, GoesOn, CountsHours, EndsHours, GoesOnUntil, ClosesAt, Lacks, Follows}
use Rattle.deadline_reasons.proofs.AnswerLemmas.{outage_lies_on}
use Rattle.deadline_reasons.proofs.HourLemmas.{outage_meets}
use Rattle.deadline_reasons.proofs.PassingLemmas.{cause_closes, open_covered}

abbrev IsSame : Reason → Standing → Reason → Standing → Type 0
IsSame r next s other = ◌≡◌ {A = Reason × Standing} (r, next) (s, other)

module _ (c : DaysView) (clock : ClockView) (row : DeadlineRowView) where
  abbrev begins : Length → Reason × Standing
  begins (Days n) =
      (reason.Excluded (event_day row row.period), Counting (event_day row row.period) n (direction_of row.period) (record { three = adds_three row row.period; grants = row.grants }))
  begins (Hours h) =
      let instant = instant_of clock.zone row.event.day (60 * row.event.minute) in
      (reason.HoursFrom instant, CountingHours instant h (direction_of row.period) row.grants)
  begins ToDay = (reason.Set row.event.day, Runs row.event.day (record { three = false; grants = row.grants }))
  begins ToTime =
      let instant = instant_of clock.zone row.event.day (60 * row.event.minute) in
      (reason.SetAt instant, RunsUntil instant row.grants)

  begins_one : (length : Length) (r : Reason) (next : Standing) → Begins clock row length r next → begins length ≡ (r, next)
  begins_one (Days n) (reason.Excluded day) next h = rw (h.1, h.0) refl
  begins_one (Hours n) (reason.HoursFrom instant) next h = rw (h.1, h.0) refl
  begins_one ToDay (reason.Set day) next h = rw (h.1, h.0) refl
  begins_one ToTime (reason.SetAt instant) next h = rw (h.1, h.0) refl
  begins_one length r next h = absurd h

  abbrev counts : ℤ → ℕ → Direction → ToCome → Reason × Standing
  counts from n direction rest =
      let day = counted_from from n direction in
      if is_covered c day then (reason.Counted n day, Looking day (away_from_event direction) (LastDay rest))
      else (reason.NotCovered, Nowhere rest.grants)

  counts_one : (from : ℤ) (n : ℕ) (direction : Direction) (rest : ToCome) (r : Reason) (next : Standing) → Counts c from n direction rest r next → counts from n direction rest ≡ (r, next)
  counts_one from n direction rest (reason.Counted days day) next h =
      let covered : is_covered c (counted_from from n direction) ≡ true = ap (is_covered c) (sym h.1) ∙ h.2 in
      rw (h.3, h.0, h.1, covered) refl
  counts_one from n direction rest reason.NotCovered next h = rw (h.1, h.0) refl
  counts_one from n direction rest r next h = absurd h

  abbrev finds : ℤ → Aim → Reason × Standing
  finds d (LastDay rest) = (reason.RunsTo d, Runs d rest)
  finds d (Hour second grants) = (reason.SameTime d (instant_of clock.zone d second), RunsUntil (instant_of clock.zone d second) grants)
  finds d AccessibleDay = (reason.RunsTo d, Moved d)
  finds d (AccessibleHour second) = (reason.SameTime d (instant_of clock.zone d second), MovedUntil (instant_of clock.zone d second))

  finds_one : (d : ℤ) (aim : Aim) (r : Reason) (next : Standing) → Finds clock d aim r next → finds d aim ≡ (r, next)
  finds_one d (LastDay rest) (reason.RunsTo day) next h = rw (h.1, h.0) refl
  finds_one d (Hour second grants) (reason.SameTime day instant) next h = rw (h.2, h.1, h.0) refl
  finds_one d AccessibleDay (reason.RunsTo day) next h = rw (h.1, h.0) refl
  finds_one d (AccessibleHour second) (reason.SameTime day instant) next h = rw (h.2, h.1, h.0) refl
  finds_one d aim r next h = absurd h

  abbrev looks : ℤ → Look → Aim → Reason × Standing
  looks d look aim =
      if is_covered c d then
      (if is_open c look.holidays look.accessible d then finds d aim
      else (reason.PassedOver d (first_cause c look d), Looking (next_day look.going d) look aim))
      else (reason.NotCovered, Nowhere (grants_behind aim))

  looks_one : (d : ℤ) (look : Look) (aim : Aim) (r : Reason) (next : Standing) → Looks c clock d look aim r next → looks d look aim ≡ (r, next)
  looks_one d look aim (reason.PassedOver day cause) next h =
      let closed = cause_closes c look d cause h.2.0 in
      rw (h.1, closed, h.2.1, h.3, h.0) refl
  looks_one d look aim reason.NotCovered next h = rw (h.0, h.1) refl
  looks_one d look aim r next h = rw (open_covered c look.holidays look.accessible d h.0, h.0) (finds_one d aim r next h.1)

  abbrev closes : Act → ℤ → Reason × Standing
  closes act.Service last = (reason.UntilMidnight last, Ended (shown.Last last act.Service))
  closes act.Filing last = (reason.UntilClosing last clock.closes clock.efiling_until, Ended (shown.Last last act.Filing))

  closes_one : (a : Act) (last : ℤ) (r : Reason) (next : Standing) → Closes clock a last r next → closes a last ≡ (r, next)
  closes_one act.Service last (reason.UntilMidnight day) next h = rw (h.1, h.0) refl
  closes_one act.Filing last (reason.UntilClosing day minute until) next h = rw (h.3, h.2, h.1, h.0) refl
  closes_one a last r next h = absurd h

  abbrev extends_day : ℤ → Grant → List Grant → Option (Reason × Standing)
  extends_day last (ByDays n) grants = Some (reason.Extended (ByDays n), Counting last n After (record { three = false; grants = grants }))
  extends_day last (ByHours n) grants = None
  extends_day last (Until d) grants = Some (reason.Extended (Until d), Runs d (record { three = false; grants = grants }))
  extends_day last (Reset d) grants = Some (reason.Extended (Reset d), Runs d (record { three = false; grants = grants }))
  extends_day last (ResetAt at) grants = Some (reason.Extended (ResetAt at), RunsUntil (instant_of clock.zone at.day (60 * at.minute)) grants)

  abbrev goes_on : ℤ → Bool → List Grant → Option (Reason × Standing)
  goes_on last true grants =
      option_map (λ kind. (reason.ThreeAdded kind, Counting last 3 After (record { three = false; grants = grants }))) row.service
  goes_on last false (g ∷ grants) =
      if goes_on_from_day (is_in_hours row.period) g then extends_day last g grants else Some (reason.NotExtended g, Nowhere grants)
  goes_on last false [] =
      if needs_access row && has_outage c last then
      option_map (λ o. (reason.Inaccessible o, Looking (day_later c last) (for_access (access_holidays row)) AccessibleDay)) (find (λ o. int_eq o.day last) c.outages)
      else Some (closes (act_due row) last)

  goes_on_one : (last : ℤ) (three : Bool) (grants : List Grant) (r : Reason) (next : Standing) → GoesOn c clock row last three grants r next → goes_on last three grants ≡ Some (r, next)
  goes_on_one last true grants (reason.ThreeAdded kind) next h = rw (h.0, h.1) refl
  goes_on_one last false (ByDays n ∷ grants) (reason.Extended grant) next h = rw (h.1, h.2, h.0) refl
  goes_on_one last false (Until d ∷ grants) (reason.Extended grant) next h = rw (h.1, h.2, h.0) refl
  goes_on_one last false (Reset d ∷ grants) (reason.Extended grant) next h = rw (h.1, h.0) refl
  goes_on_one last false (ResetAt at ∷ grants) (reason.Extended grant) next h = rw (h.1, h.0) refl
  goes_on_one last false (ByDays n ∷ grants) (reason.NotExtended grant) next h = rw (h.1, h.2, h.0) refl
  goes_on_one last false (ByHours n ∷ grants) (reason.NotExtended grant) next h = rw (h.2, h.0) refl
  goes_on_one last false (Until d ∷ grants) (reason.NotExtended grant) next h = rw (h.1, h.2, h.0) refl
  goes_on_one last false (Reset d ∷ grants) (reason.NotExtended grant) next h = cc h.1
  goes_on_one last false (ResetAt at ∷ grants) (reason.NotExtended grant) next h = cc h.1
  goes_on_one last false [] (reason.Inaccessible outage) next h =
      rw (h.0, outage_lies_on c clock row outage last h.1.0 h.2, h.1.1, h.3) refl
  goes_on_one last false [] r next h = rw h.0 (ap Some (closes_one (act_due row) last r next h.1))
  goes_on_one last three grants r next h = absurd h

  counts_hours_one : (from : ℤ) (n : ℕ) (direction : Direction) (grants : List Grant) (r s : Reason) (next other : Standing) → CountsHours clock from n direction grants r next → CountsHours clock from n direction grants s other → IsSame r next s other
  counts_hours_one from n direction grants (reason.HoursCounted hours instant forward) (reason.HoursCounted hours_2 instant_2 forward_2) next other h k =
      let at : instant ≡ instant_2 = h.1 ∙ sym k.1 in
      let sums : offset_seconds clock.zone from +ℤ forward ≡ offset_seconds clock.zone from +ℤ forward_2 = sym h.2 ∙ ap (offset_seconds clock.zone) at ∙ k.2 in
      let moved : forward ≡ forward_2 = omega (arith, ints, sums) in
      rw (h.4, k.4, h.0, k.0, at, moved) refl
  counts_hours_one from n direction grants (reason.HoursCounted hours instant forward) reason.NotCovered next other h k =
      absurd (k.0 (subst IsInstantSecond h.1 h.3))
  counts_hours_one from n direction grants reason.NotCovered (reason.HoursCounted hours instant forward) next other h k =
      absurd (h.0 (subst IsInstantSecond k.1 k.3))
  counts_hours_one from n direction grants reason.NotCovered reason.NotCovered next other h k = rw (h.2, k.2) refl
  counts_hours_one from n direction grants (reason.HoursCounted hours instant forward) s next other h k = absurd k
  counts_hours_one from n direction grants reason.NotCovered s next other h k = absurd k
  counts_hours_one from n direction grants r s next other h k = absurd h

  abbrev ends_shown : ℤ → Direction → List Grant → Option CivilTime → Reason × Standing
  ends_shown end direction grants None = (reason.NotCovered, Nowhere grants)
  ends_shown end direction grants (Some at) =
      if is_permitted c direction at.day then (reason.EndsOn at.day, RunsUntil end grants)
      else (reason.Continued at.day at.second, Looking at.day (away_from_event direction) (Hour at.second grants))

  ends_hours_one : (end : ℤ) (direction : Direction) (grants : List Grant) (r : Reason) (next : Standing) → EndsHours c clock end direction grants r next → ends_shown end direction grants (civil_of clock.zone end) ≡ (r, next)
  ends_hours_one end direction grants (reason.EndsOn day) next h = rw (h.0.1, h.1, h.2) refl
  ends_hours_one end direction grants (reason.Continued day second) next h = rw (h.0, h.1, h.2) refl
  ends_hours_one end direction grants reason.NotCovered next h = rw (h.0, h.1) refl
  ends_hours_one end direction grants r next h = absurd h

  abbrev extends_hours : ℤ → Grant → List Grant → Option (Reason × Standing)
  extends_hours end (ByDays n) grants = None
  extends_hours end (ByHours n) grants = Some (reason.Extended (ByHours n), CountingHours end n After grants)
  extends_hours end (Until d) grants = Some (reason.Extended (Until d), Runs d (record { three = false; grants = grants }))
  extends_hours end (Reset d) grants = Some (reason.Extended (Reset d), Runs d (record { three = false; grants = grants }))
  extends_hours end (ResetAt at) grants = Some (reason.Extended (ResetAt at), RunsUntil (instant_of clock.zone at.day (60 * at.minute)) grants)

  abbrev shut_at : ℤ → Option CivilTime → Option (Reason × Standing)
  shut_at end None = Some (reason.NotCovered, Nowhere [])
  shut_at end (Some at) =
      option_map (λ o. (reason.LastHour o at.day at.second, Looking (day_later c at.day) (for_access (access_holidays row)) (AccessibleHour at.second))) (find (meets_last_hour clock end) c.outages)

  abbrev goes_on_until : ℤ → List Grant → Option (Reason × Standing)
  goes_on_until end (g ∷ grants) =
      if goes_on_from_instant (is_in_hours row.period) g then extends_hours end g grants else Some (reason.NotExtended g, Nowhere grants)
  goes_on_until end [] =
      if needs_access row && list_any (meets_last_hour clock end) c.outages then shut_at end (civil_of clock.zone end)
      else Some (reason.UntilInstant end, Ended (shown.Until end))

  goes_on_until_one : (end : ℤ) (grants : List Grant) (r : Reason) (next : Standing) → GoesOnUntil c clock row end grants r next → goes_on_until end grants ≡ Some (r, next)
  goes_on_until_one end (ByHours n ∷ grants) (reason.Extended grant) next h = rw (h.1, h.2, h.0) refl
  goes_on_until_one end (Until d ∷ grants) (reason.Extended grant) next h = rw (h.1, h.2, h.0) refl
  goes_on_until_one end (Reset d ∷ grants) (reason.Extended grant) next h = rw (h.1, h.0) refl
  goes_on_until_one end (ResetAt at ∷ grants) (reason.Extended grant) next h = rw (h.1, h.0) refl
  goes_on_until_one end (ByDays n ∷ grants) (reason.NotExtended grant) next h = rw (h.2, h.0) refl
  goes_on_until_one end (ByHours n ∷ grants) (reason.NotExtended grant) next h = rw (h.1, h.2, h.0) refl
  goes_on_until_one end (Until d ∷ grants) (reason.NotExtended grant) next h = rw (h.1, h.2, h.0) refl
  goes_on_until_one end (Reset d ∷ grants) (reason.NotExtended grant) next h = cc h.1
  goes_on_until_one end (ResetAt at ∷ grants) (reason.NotExtended grant) next h = cc h.1
  goes_on_until_one end [] (reason.LastHour outage day second) next h =
      rw (h.0, outage_meets c clock row end outage h.1.0 h.2, h.3, h.1.1, h.4) refl
  goes_on_until_one end [] reason.NotCovered next h = rw (h.0, h.1, h.2) refl
  goes_on_until_one end [] (reason.UntilInstant instant) next h = rw (h.0, h.2, h.1) refl
  goes_on_until_one end grants r next h = absurd h

  closes_at_one : (end : ℤ) (r : Reason) (next : Standing) → ClosesAt end r next → IsSame (reason.UntilInstant end) (Ended (shown.Until end)) r next
  closes_at_one end (reason.UntilInstant instant) next h = rw (h.1, h.0) refl
  closes_at_one end r next h = absurd h

  abbrev lacks_certain : Grant → List Grant → Option (Reason × Standing)
  lacks_certain (ByDays n) grants = None
  lacks_certain (ByHours n) grants = None
  lacks_certain (Until d) grants = Some (reason.Extended (Until d), Runs d (record { three = false; grants = grants }))
  lacks_certain (Reset d) grants = Some (reason.Extended (Reset d), Runs d (record { three = false; grants = grants }))
  lacks_certain (ResetAt at) grants = Some (reason.Extended (ResetAt at), RunsUntil (instant_of clock.zone at.day (60 * at.minute)) grants)

  abbrev lacks : List Grant → Option (Reason × Standing)
  lacks [] = Some (reason.Beyond, Ended shown.Beyond)
  lacks (g ∷ grants) =
      if is_certain g && grant_fits (is_in_hours row.period) g then lacks_certain g grants else Some (reason.NotExtended g, Nowhere grants)

  lacks_one : (grants : List Grant) (r : Reason) (next : Standing) → Lacks clock row grants r next → lacks grants ≡ Some (r, next)
  lacks_one (Until d ∷ grants) (reason.Extended grant) next h = rw (h.1, h.2, h.0) refl
  lacks_one (Reset d ∷ grants) (reason.Extended grant) next h = rw (h.1, h.0) refl
  lacks_one (ResetAt at ∷ grants) (reason.Extended grant) next h = rw (h.1, h.0) refl
  lacks_one (ByDays n ∷ grants) (reason.NotExtended grant) next h = rw (h.2, h.0) refl
  lacks_one (ByHours n ∷ grants) (reason.NotExtended grant) next h = rw (h.2, h.0) refl
  lacks_one (Until d ∷ grants) (reason.NotExtended grant) next h = rw (h.1, h.2, h.0) refl
  lacks_one (Reset d ∷ grants) (reason.NotExtended grant) next h = cc h.1
  lacks_one (ResetAt at ∷ grants) (reason.NotExtended grant) next h = cc h.1
  lacks_one [] reason.Beyond next h = rw h refl
  lacks_one grants r next h = absurd h

  -- the reason that is found, or another where none is
  abbrev held : Reason × Standing → Option (Reason × Standing) → Reason × Standing
  held x (Some y) = y
  held x None = x

  same_held : (found : Option (Reason × Standing)) (x y : Reason × Standing) → found ≡ Some x → found ≡ Some y → x ≡ y
  same_held found x y h k = ap (held x) (sym h ∙ k)

  follows_one : (here : Standing) (r s : Reason) (next other : Standing) → Follows c clock row here r next → Follows c clock row here s other → IsSame r next s other
  follows_one Unstarted r s next other h k = sym (begins_one (length_of row row.period) r next h) ∙ begins_one (length_of row row.period) s other k
  follows_one (Counting from n direction rest) r s next other h k = sym (counts_one from n direction rest r next h) ∙ counts_one from n direction rest s other k
  follows_one (Looking d look aim) r s next other h k = sym (looks_one d look aim r next h) ∙ looks_one d look aim s other k
  follows_one (Runs last rest) r s next other h k = same_held (goes_on last rest.three rest.grants) (r, next) (s, other) (goes_on_one last rest.three rest.grants r next h) (goes_on_one last rest.three rest.grants s other k)
  follows_one (CountingHours from n direction grants) r s next other h k = counts_hours_one from n direction grants r s next other h k
  follows_one (HoursEnd end direction grants) r s next other h k = sym (ends_hours_one end direction grants r next h) ∙ ends_hours_one end direction grants s other k
  follows_one (RunsUntil end grants) r s next other h k = same_held (goes_on_until end grants) (r, next) (s, other) (goes_on_until_one end grants r next h) (goes_on_until_one end grants s other k)
  follows_one (Moved d) r s next other h k = sym (closes_one (act_due row) d r next h) ∙ closes_one (act_due row) d s other k
  follows_one (MovedUntil end) r s next other h k = sym (closes_at_one end r next h) ∙ closes_at_one end s other k
  follows_one (Nowhere grants) r s next other h k = same_held (lacks grants) (r, next) (s, other) (lacks_one grants r next h) (lacks_one grants s other k)
  follows_one (Ended shown) r s next other h k = absurd h

  lead_one : (here : Standing) (reasons others : List Reason) (shown other : Shown) → Lead c clock row here reasons (Ended shown) → Lead c clock row here others (Ended other) → reasons ≡ others
  unfolding Lead
  lead_one here [] [] shown other h k = refl
  lead_one here [] (s ∷ others) shown other h k = absurd (subst (λ x. Follows c clock row x s k.0) (sym h) k.1.0)
  lead_one here (r ∷ reasons) [] shown other h k = absurd (subst (λ x. Follows c clock row x r h.0) (sym k) h.1.0)
  lead_one here (r ∷ reasons) (s ∷ others) shown other h k =
      let same = follows_one here r s h.0 k.0 h.1.0 k.1.0 in
      let rest = lead_one h.0 reasons others shown other h.1.1 (subst (λ x. Lead c clock row x others (Ended other)) (sym (ap (λ p. p.1) same)) k.1.1) in
      ap (λ x. x ∷ reasons) (ap (λ p. p.0) same) ∙ ap (λ xs. s ∷ xs) rest

-- a deadline has one derivation
pub one_derivation : DeadlinesHaveOneDerivation
one_derivation c clock row reasons others shown other h k = lead_one c clock row Unstarted reasons others shown other h k
