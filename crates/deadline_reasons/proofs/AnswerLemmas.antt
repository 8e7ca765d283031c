-- A step of days doesn't change what the definitions give.
use Rattle.std.proofs.Common.{◌≡◌, inl, inr, ℕ, ◌*◌, ℤ, Bool, true, false, ◌&&◌, not, Contains, List, [], ◌∷◌, Option, Some, None, option_map, refl, sym, ◌∙◌, ap}
use Rattle.std.specs.List.{list_any}
use Rattle.std.specs.Ordering.{int_eq}
use Rattle.std.proofs.lemmas.Bool.{cases_Bool}
use Rattle.std.proofs.lemmas.Bool.Decides.{Decides-int_eq}
use Rattle.std.proofs.lemmas.List.Folds.{list_any-from_Any}
use Rattle.court_clock.specs.declared.direction.Direction.{Direction}
use Rattle.court_clock.specs.Words.{ClockView, counted_from, instant_of}
use Rattle.court_days.specs.Words.{DaysView, OutageView, is_open, has_outage, rolled}
use Rattle.rule6.specs.declared.timeliness.Act.{Act}
use Rattle.rule6.specs.declared.timeliness.Act.TheVariants as act
use Rattle.rule6.specs.declared.timeliness.Shown.TheVariants as shown
use Rattle.rule6.specs.Words.{expiry_of, last_day_of, end_of_hours_from, extended_day}
use Rattle.rule_periods.specs.declared.expiry.Expiry.{Expiry}
use Rattle.rule_periods.specs.declared.expiry.Expiry.TheVariants.{OnDay, AtInstant}
use Rattle.rule_periods.specs.declared.grant.Grant.{Grant}
use Rattle.rule_periods.specs.declared.grant.Grant.TheVariants.{ByDays, ByHours, Until, Reset, ResetAt}
use Rattle.rule_periods.specs.declared.period.Entered.{Entered as EnteredPeriod}
use Rattle.rule_periods.specs.declared.period.Length.{Length}
use Rattle.rule_periods.specs.declared.period.Length.TheVariants.{Days, Hours, ToDay, ToTime}
use Rattle.rule_periods.specs.declared.period.Period.{Period}
use Rattle.rule_periods.specs.declared.period.Period.TheVariants.{Rule, Entered}
use Rattle.rule_periods.specs.Words.{DeadlineRowView, base_of_period, end_of_rule, end_of_length, extended_of, act_due, direction_of, goes_on_from_day, goes_on_from_instant, grant_fits, granted, granted_if_it_fits, is_certain, is_in_hours, shown_end, shown_after, shown_of}
use Rattle.deadline_reasons.specs.declared.look.Look.{Look}
use Rattle.deadline_reasons.specs.declared.reason.Reason.{Reason}
use Rattle.deadline_reasons.specs.declared.reason.Reason.TheVariants as reason
use Rattle.deadline_reasons.specs.Passing.{for_access, day_later}
use Rattle.deadline_reasons.specs.Row.{length_of, event_day, adds_three, needs_access, access_holidays}
use Rattle.deadline_reasons.specs.Standing.{ToCome, Aim, LastDay, Hour, AccessibleDay, AccessibleHour, Standing, grants_behind}
use Rattle.deadline_reasons.specs.Follows.{Begins, Counts, Finds, Looks, Closes, GoesOn, Lacks}
use Rattle.deadline_reasons.proofs.Answer.{answer_from, reached, three_more, with_grants, with_rest}
use Rattle.deadline_reasons.proofs.PassingLemmas.{found_by, found_skips, found_here, found_none, found_rolls, found_accessible, cause_closes, open_covered}

module _ (c : DaysView) (clock : ClockView) (row : DeadlineRowView) where
  -- before any extension
  abbrev base_by : Period → Length → Option Expiry
  base_by p (Days n) = option_map OnDay (last_day_of c (event_day row p) n (direction_of p) (adds_three row p))
  base_by p (Hours h) = option_map AtInstant (end_of_hours_from c clock (instant_of clock.zone row.event.day (60 * row.event.minute)) h (direction_of p))
  base_by p ToDay = Some (OnDay row.event.day)
  base_by p ToTime = Some (AtInstant (instant_of clock.zone row.event.day (60 * row.event.minute)))

  entered_is : (entered : EnteredPeriod) (length : Length) → end_of_length c clock row.event length entered.direction (adds_three row (Entered entered)) ≡ base_by (Entered entered) length
  unfolding end_of_length
  entered_is entered (Days n) = refl
  entered_is entered (Hours h) = refl
  entered_is entered ToDay = refl
  entered_is entered ToTime = refl

  base_is : (p : Period) → base_of_period c clock row p ≡ base_by p (length_of row p)
  unfolding base_of_period end_of_rule
  base_is (Rule rule) = refl
  base_is (Entered entered) = entered_is entered entered.length

  last_day_is : (event : ℤ) (n : ℕ) (direction : Direction) (added : Bool) → three_more c added (expiry_of c event n direction) ≡ last_day_of c event n direction added
  unfolding last_day_of
  last_day_is event n direction false = refl
  last_day_is event n direction true = refl

  begins_with : (length : Length) (r : Reason) (next : Standing) → Begins clock row length r next → answer_from c clock row next ≡ with_grants c clock row (base_by row.period length) row.grants
  begins_with (Days n) (reason.Excluded day) next h =
      ap (answer_from c clock row) h.1
      ∙ ap (λ e. with_grants c clock row (option_map OnDay (three_more c (adds_three row row.period) (expiry_of c e n (direction_of row.period)))) row.grants) h.0
      ∙ ap (λ o. with_grants c clock row (option_map OnDay o) row.grants) (last_day_is (event_day row row.period) n (direction_of row.period) (adds_three row row.period))
  begins_with (Hours n) (reason.HoursFrom instant) next h =
      ap (answer_from c clock row) h.1
      ∙ ap (λ e. with_grants c clock row (option_map AtInstant (end_of_hours_from c clock e n (direction_of row.period))) row.grants) h.0
  begins_with ToDay (reason.Set day) next h =
      ap (answer_from c clock row) h.1 ∙ ap (λ d. with_grants c clock row (Some (OnDay d)) row.grants) h.0
  begins_with ToTime (reason.SetAt instant) next h =
      ap (answer_from c clock row) h.1 ∙ ap (λ t. with_grants c clock row (Some (AtInstant t)) row.grants) h.0
  begins_with length r next h = absurd h

  shown_is : shown_of c clock row ≡ with_grants c clock row (base_of_period c clock row row.period) row.grants
  unfolding shown_of extended_of
  shown_is = refl

  pub begins_keeps : (r : Reason) (next : Standing) → Begins clock row (length_of row row.period) r next → answer_from c clock row next ≡ shown_of c clock row
  begins_keeps r next h =
      begins_with (length_of row row.period) r next h ∙ sym (shown_is ∙ ap (λ b. with_grants c clock row b row.grants) (base_is row.period))

  -- counting
  none_more : (three : Bool) → three_more c three None ≡ None
  none_more false = refl
  none_more true = refl

  none_left : (rest : ToCome) → with_grants c clock row None rest.grants ≡ with_rest c clock row None rest
  none_left rest = ap (λ o. with_grants c clock row (option_map OnDay o) rest.grants) (sym (none_more rest.three))

  pub counts_keeps : (from : ℤ) (n : ℕ) (direction : Direction) (rest : ToCome) (r : Reason) (next : Standing) → Counts c from n direction rest r next → answer_from c clock row next ≡ with_rest c clock row (expiry_of c from n direction) rest
  counts_keeps from n direction rest (reason.Counted days day) next h =
      ap (answer_from c clock row) h.3
      ∙ ap (λ o. with_rest c clock row o rest) (found_rolls c direction day ∙ ap (λ d. rolled c d direction) h.1)
  counts_keeps from n direction rest reason.NotCovered next h =
      let day : ℤ = counted_from from n direction in
      ap (answer_from c clock row) h.1
      ∙ none_left rest
      ∙ ap (λ o. with_rest c clock row o rest) (sym (found_none c direction (is_open c direction false) day h.0) ∙ found_rolls c direction day)
  counts_keeps from n direction rest r next h = absurd h

  -- looking
  none_reached : (aim : Aim) → with_grants c clock row None (grants_behind aim) ≡ reached c clock row aim None
  unfolding shown_after
  none_reached (LastDay rest) = none_left rest
  none_reached (Hour second grants) = refl
  none_reached AccessibleDay = elim (cases_Bool (needs_access row)) [
    | inl t ↦ rw t refl
    | inr f ↦ rw f refl
  ]
  none_reached (AccessibleHour second) = elim (cases_Bool (needs_access row)) [
    | inl t ↦ rw t refl
    | inr f ↦ rw f refl
  ]

  finds_keeps : (d : ℤ) (aim : Aim) (r : Reason) (next : Standing) → Finds clock d aim r next → answer_from c clock row next ≡ reached c clock row aim (Some d)
  finds_keeps d (LastDay rest) (reason.RunsTo day) next h = ap (answer_from c clock row) h.1
  finds_keeps d (Hour second grants) (reason.SameTime day instant) next h =
      ap (answer_from c clock row) h.2 ∙ ap (λ t. with_grants c clock row (Some (AtInstant t)) grants) h.1
  finds_keeps d AccessibleDay (reason.RunsTo day) next h = ap (answer_from c clock row) h.1
  finds_keeps d (AccessibleHour second) (reason.SameTime day instant) next h =
      ap (answer_from c clock row) h.2 ∙ ap (λ t. shown_end (act_due row) (Some (AtInstant t))) h.1
  finds_keeps d aim r next h = absurd h

  here_keeps : (d : ℤ) (look : Look) (aim : Aim) (r : Reason) (next : Standing) → is_open c look.holidays look.accessible d ≡ true → Finds clock d aim r next → answer_from c clock row next ≡ reached c clock row aim (found_by c look d)
  here_keeps d look aim r next passes h =
      let covered = open_covered c look.holidays look.accessible d passes in
      finds_keeps d aim r next h
      ∙ ap (reached c clock row aim) (sym (found_here c look.going (is_open c look.holidays look.accessible) d covered passes))

  pub looks_keeps : (d : ℤ) (look : Look) (aim : Aim) (r : Reason) (next : Standing) → Looks c clock d look aim r next → answer_from c clock row next ≡ reached c clock row aim (found_by c look d)
  looks_keeps d look aim (reason.PassedOver day cause) next h =
      ap (answer_from c clock row) h.3
      ∙ ap (reached c clock row aim) (found_skips c look.going (is_open c look.holidays look.accessible) d h.1 (cause_closes c look d cause h.2.0))
  looks_keeps d look aim reason.NotCovered next h =
      ap (answer_from c clock row) h.1
      ∙ none_reached aim
      ∙ ap (reached c clock row aim) (sym (found_none c look.going (is_open c look.holidays look.accessible) d h.0))
  looks_keeps d look aim r next h = here_keeps d look aim r next h.0 h.1

  -- the last day
  pub closes_keeps : (a : Act) (last : ℤ) (r : Reason) (next : Standing) → Closes clock a last r next → answer_from c clock row next ≡ shown_end a (Some (OnDay last))
  closes_keeps act.Service last (reason.UntilMidnight day) next h = ap (answer_from c clock row) h.1
  closes_keeps act.Filing last (reason.UntilClosing day closes until) next h = ap (answer_from c clock row) h.3
  closes_keeps a last r next h = absurd h

  pub passes : (test : OutageView → Bool) (outage : OutageView) → Contains c.outages outage → test outage ≡ true → list_any test c.outages ≡ true
  passes test outage among h = list_any-from_Any test c.outages (among.0, outage, among.1, among.2, h)

  pub outage_lies_on : (outage : OutageView) (d : ℤ) → Contains c.outages outage → outage.day ≡ d → has_outage c d ≡ true
  outage_lies_on outage d among same =
      passes (λ o. int_eq o.day d) outage among ((Decides-int_eq outage.day d).1 same)

  shut : (last : ℤ) → needs_access row ≡ true → has_outage c last ≡ true → reached c clock row AccessibleDay (found_by c (for_access (access_holidays row)) (day_later c last)) ≡ with_grants c clock row (Some (OnDay last)) []
  unfolding shown_after extended_day
  shut last moves outage = rw (moves, outage) (ap (λ o. shown_end (act_due row) (option_map OnDay o)) (found_accessible c (access_holidays row) last))

  not_shut : (last : ℤ) → (needs_access row && has_outage c last) ≡ false → shown_end (act_due row) (Some (OnDay last)) ≡ with_grants c clock row (Some (OnDay last)) []
  unfolding shown_after extended_day
  not_shut last h = elim (cases_Bool (needs_access row)) [
    | inl t ↦
        let accessible : has_outage c last ≡ false = rw t at h in
        rw (t, accessible) refl
    | inr f ↦ rw f refl
  ]

  -- one more extension
  pub extended_is : (hours : Bool) (end : Option Expiry) (g : Grant) → grant_fits hours g ≡ true → granted_if_it_fits c clock hours end g ≡ granted c clock end g
  extended_is hours end g fits = rw fits refl

  -- none that doesn't go on from a last day, or from an instant, gives an end
  nothing_from_day : (hours : Bool) (last : ℤ) (g : Grant) → goes_on_from_day hours g ≡ false → granted_if_it_fits c clock hours (Some (OnDay last)) g ≡ None
  nothing_from_day true last (ByDays n) h = refl
  nothing_from_day false last (ByDays n) h = absurd (cc)
  nothing_from_day true last (ByHours n) h = refl
  nothing_from_day false last (ByHours n) h = refl
  nothing_from_day true last (Until d) h = refl
  nothing_from_day false last (Until d) h = absurd (cc)
  nothing_from_day hours last (Reset d) h = absurd (cc)
  nothing_from_day hours last (ResetAt at) h = absurd (cc)

  pub nothing_from_instant : (hours : Bool) (end : ℤ) (g : Grant) → goes_on_from_instant hours g ≡ false → granted_if_it_fits c clock hours (Some (AtInstant end)) g ≡ None
  nothing_from_instant true end (ByDays n) h = refl
  nothing_from_instant false end (ByDays n) h = refl
  nothing_from_instant true end (ByHours n) h = absurd (cc)
  nothing_from_instant false end (ByHours n) h = refl
  nothing_from_instant true end (Until d) h = refl
  nothing_from_instant false end (Until d) h = absurd (cc)
  nothing_from_instant hours end (Reset d) h = absurd (cc)
  nothing_from_instant hours end (ResetAt at) h = absurd (cc)

  pub and_then_extended : (next end : Option Expiry) (g : Grant) (grants : List Grant) → granted_if_it_fits c clock (is_in_hours row.period) end g ≡ next → with_grants c clock row next grants ≡ with_grants c clock row end (g ∷ grants)
  and_then_extended next end g grants same = ap (λ e. with_grants c clock row e grants) (sym same)

  pub goes_on_keeps : (last : ℤ) (three : Bool) (grants : List Grant) (r : Reason) (next : Standing) → GoesOn c clock row last three grants r next → answer_from c clock row next ≡ with_grants c clock row (option_map OnDay (three_more c three (Some last))) grants
  goes_on_keeps last true grants (reason.ThreeAdded kind) next h = ap (answer_from c clock row) h.1
  goes_on_keeps last false (ByDays n ∷ grants) (reason.Extended grant) next h =
      ap (answer_from c clock row) h.2
      ∙ and_then_extended _ (Some (OnDay last)) (ByDays n) grants (extended_is (is_in_hours row.period) (Some (OnDay last)) (ByDays n) (ap not h.1))
  goes_on_keeps last false (Until d ∷ grants) (reason.Extended grant) next h =
      ap (answer_from c clock row) h.2
      ∙ and_then_extended _ (Some (OnDay last)) (Until d) grants (extended_is (is_in_hours row.period) (Some (OnDay last)) (Until d) (ap not h.1))
  goes_on_keeps last false (Reset d ∷ grants) (reason.Extended grant) next h =
      ap (answer_from c clock row) h.1
      ∙ and_then_extended _ (Some (OnDay last)) (Reset d) grants (extended_is (is_in_hours row.period) (Some (OnDay last)) (Reset d) refl)
  goes_on_keeps last false (ResetAt at ∷ grants) (reason.Extended grant) next h =
      ap (answer_from c clock row) h.1
      ∙ and_then_extended _ (Some (OnDay last)) (ResetAt at) grants (extended_is (is_in_hours row.period) (Some (OnDay last)) (ResetAt at) refl)
  goes_on_keeps last false (g ∷ grants) (reason.NotExtended grant) next h =
      ap (answer_from c clock row) h.2
      ∙ and_then_extended None (Some (OnDay last)) g grants (nothing_from_day (is_in_hours row.period) last g h.1)
  goes_on_keeps last false [] (reason.Inaccessible outage) next h =
      ap (answer_from c clock row) h.3 ∙ shut last h.0 (outage_lies_on outage last h.1.0 h.2)
  goes_on_keeps last false [] r next h = closes_keeps (act_due row) last r next h.1 ∙ not_shut last h.0
  goes_on_keeps last three grants r next h = absurd h

  -- no day
  nothing_from_none : (hours : Bool) (g : Grant) → (is_certain g && grant_fits hours g) ≡ false → granted_if_it_fits c clock hours None g ≡ None
  nothing_from_none true (ByDays n) h = refl
  nothing_from_none false (ByDays n) h = refl
  nothing_from_none true (ByHours n) h = refl
  nothing_from_none false (ByHours n) h = refl
  nothing_from_none true (Until d) h = refl
  nothing_from_none false (Until d) h = absurd (cc)
  nothing_from_none hours (Reset d) h = absurd (cc)
  nothing_from_none hours (ResetAt at) h = absurd (cc)

  lacks_end : with_grants c clock row None [] ≡ shown.Beyond
  unfolding shown_after
  lacks_end = elim (cases_Bool (needs_access row)) [
    | inl t ↦ rw t refl
    | inr f ↦ rw f refl
  ]

  pub lacks_keeps : (grants : List Grant) (r : Reason) (next : Standing) → Lacks clock row grants r next → answer_from c clock row next ≡ with_grants c clock row None grants
  lacks_keeps (Until d ∷ grants) (reason.Extended grant) next h =
      ap (answer_from c clock row) h.2 ∙ and_then_extended _ None (Until d) grants (extended_is (is_in_hours row.period) None (Until d) (ap not h.1))
  lacks_keeps (Reset d ∷ grants) (reason.Extended grant) next h =
      ap (answer_from c clock row) h.1 ∙ and_then_extended _ None (Reset d) grants (extended_is (is_in_hours row.period) None (Reset d) refl)
  lacks_keeps (ResetAt at ∷ grants) (reason.Extended grant) next h =
      ap (answer_from c clock row) h.1 ∙ and_then_extended _ None (ResetAt at) grants (extended_is (is_in_hours row.period) None (ResetAt at) refl)
  lacks_keeps (g ∷ grants) (reason.NotExtended grant) next h =
      ap (answer_from c clock row) h.2 ∙ and_then_extended None None g grants (nothing_from_none (is_in_hours row.period) g h.1)
  lacks_keeps [] reason.Beyond next h = ap (answer_from c clock row) h ∙ sym lacks_end
  lacks_keeps grants r next h = absurd h
