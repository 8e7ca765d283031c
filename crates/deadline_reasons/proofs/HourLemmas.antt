-- A step of hours doesn't change what the definitions give.
use Rattle.std.proofs.Common.{◌≡◌, inl, inr, ℕ, ℤ, true, false, not, ◌&&◌, Contains, List, [], ◌∷◌, Option, Some, None, option_map, refl, sym, ◌∙◌, ap, arith}
use Rattle.std.specs.List.{list_any}
use Rattle.std.specs.Option.{option_and_then}
use Rattle.std.proofs.lemmas.Bool.{cases_Bool}
use Rattle.court_clock.specs.declared.direction.Direction.{Direction}
use Rattle.court_clock.specs.Words.{ClockView, CivilTime, civil_of}
use Rattle.court_days.specs.Words.{DaysView, OutageView, is_permitted}
use Rattle.rule6.specs.Words.{continued, end_of_hours_from, extended_end, hours_from, meets_last_hour, same_time_on}
use Rattle.rule_periods.specs.declared.expiry.Expiry.TheVariants.{AtInstant}
use Rattle.rule_periods.specs.declared.grant.Grant.{Grant}
use Rattle.rule_periods.specs.declared.grant.Grant.TheVariants.{ByHours, Until, Reset, ResetAt}
use Rattle.rule_periods.specs.Words.{DeadlineRowView, act_due, is_in_hours, shown_end, shown_after}
use Rattle.deadline_reasons.specs.declared.reason.Reason.{Reason}
use Rattle.deadline_reasons.specs.declared.reason.Reason.TheVariants as reason
use Rattle.deadline_reasons.specs.Passing.{away_from_event, for_access, day_later}
use Rattle.deadline_reasons.specs.Row.{needs_access, access_holidays}
use Rattle.deadline_reasons.specs.Standing.{Standing, AccessibleHour}
use Rattle.deadline_reasons.specs.Follows.{CountsHours, EndsHours, GoesOnUntil, ClosesAt}
use Rattle.deadline_reasons.proofs.Answer.{answer_from, reached, with_grants}
use Rattle.deadline_reasons.proofs.AnswerLemmas.{passes, and_then_extended, extended_is, nothing_from_instant}
use Rattle.deadline_reasons.proofs.PassingLemmas.{found_by, found_rolls, found_accessible}

module _ (c : DaysView) (clock : ClockView) (row : DeadlineRowView) where
  abbrev hours_end : Direction → ℤ → Option ℤ
  hours_end direction end = option_and_then (continued c clock direction end) (civil_of clock.zone end)

  end_is : (from : ℤ) (h : ℕ) (direction : Direction) → hours_end direction (hours_from from h direction) ≡ end_of_hours_from c clock from h direction
  unfolding end_of_hours_from
  end_is from h direction = refl

  pub counts_hours_keeps : (from : ℤ) (n : ℕ) (direction : Direction) (grants : List Grant) (r : Reason) (next : Standing) → CountsHours clock from n direction grants r next → answer_from c clock row next ≡ with_grants c clock row (option_map AtInstant (end_of_hours_from c clock from n direction)) grants
  counts_hours_keeps from n direction grants (reason.HoursCounted hours instant forward) next h =
      ap (answer_from c clock row) h.4
      ∙ ap (λ o. with_grants c clock row (option_map AtInstant o) grants) (ap (hours_end direction) h.1 ∙ end_is from n direction)
  counts_hours_keeps from n direction grants reason.NotCovered next h =
      ap (answer_from c clock row) h.2
      ∙ ap (λ o. with_grants c clock row (option_map AtInstant o) grants) (ap (option_and_then (continued c clock direction (hours_from from n direction))) (sym h.1) ∙ end_is from n direction)
  counts_hours_keeps from n direction grants r next h = absurd h

  abbrev time_at : ℤ → ℕ → CivilTime
  time_at day second = record { day = day; second = second }

  kept : (end : ℤ) (direction : Direction) (day : ℤ) (second : ℕ) → civil_of clock.zone end ≡ Some (time_at day second) → is_permitted c direction day ≡ true → hours_end direction end ≡ Some end
  kept end direction day second civil permitted = rw (civil, permitted) refl

  goes_on : (end : ℤ) (direction : Direction) (day : ℤ) (second : ℕ) → civil_of clock.zone end ≡ Some (time_at day second) → is_permitted c direction day ≡ false → same_time_on clock second (found_by c (away_from_event direction) day) ≡ hours_end direction end
  goes_on end direction day second civil other = ap (same_time_on clock second) (found_rolls c direction day) ∙ rw (civil, other) refl

  pub ends_hours_keeps : (end : ℤ) (direction : Direction) (grants : List Grant) (r : Reason) (next : Standing) → EndsHours c clock end direction grants r next → answer_from c clock row next ≡ with_grants c clock row (option_map AtInstant (hours_end direction end)) grants
  ends_hours_keeps end direction grants (reason.EndsOn day) next h =
      ap (answer_from c clock row) h.2
      ∙ ap (λ o. with_grants c clock row (option_map AtInstant o) grants) (sym (kept end direction day h.0.0 h.0.1 h.1))
  ends_hours_keeps end direction grants (reason.Continued day second) next h =
      ap (answer_from c clock row) h.2
      ∙ ap (λ o. with_grants c clock row (option_map AtInstant o) grants) (goes_on end direction day second h.0 h.1)
  ends_hours_keeps end direction grants reason.NotCovered next h =
      ap (answer_from c clock row) h.1
      ∙ ap (λ o. with_grants c clock row (option_map AtInstant (option_and_then (continued c clock direction end) o)) grants) (sym h.0)
  ends_hours_keeps end direction grants r next h = absurd h

  pub outage_meets : (end : ℤ) (outage : OutageView) → Contains c.outages outage → meets_last_hour clock end outage ≡ true → list_any (meets_last_hour clock end) c.outages ≡ true
  outage_meets end outage among meets = passes c clock row (meets_last_hour clock end) outage among meets

  shut : (end day : ℤ) (second : ℕ) → needs_access row ≡ true → list_any (meets_last_hour clock end) c.outages ≡ true → civil_of clock.zone end ≡ Some (time_at day second) → reached c clock row (AccessibleHour second) (found_by c (for_access (access_holidays row)) (day_later c day)) ≡ with_grants c clock row (Some (AtInstant end)) []
  unfolding shown_after extended_end
  shut end day second moves met civil =
      rw (moves, met, civil) (ap (λ o. shown_end (act_due row) (option_map AtInstant (same_time_on clock second o))) (found_accessible c (access_holidays row) day))

  shut_beyond : (end : ℤ) → (needs_access row && list_any (meets_last_hour clock end) c.outages) ≡ true → civil_of clock.zone end ≡ None → with_grants c clock row None [] ≡ with_grants c clock row (Some (AtInstant end)) []
  unfolding shown_after extended_end
  shut_beyond end moves civil =
      let filing : needs_access row ≡ true = grind arith in
      let met : list_any (meets_last_hour clock end) c.outages ≡ true = grind arith in
      rw (filing, met, civil) refl

  not_shut : (end : ℤ) → (needs_access row && list_any (meets_last_hour clock end) c.outages) ≡ false → shown_end (act_due row) (Some (AtInstant end)) ≡ with_grants c clock row (Some (AtInstant end)) []
  unfolding shown_after extended_end
  not_shut end h = elim (cases_Bool (needs_access row)) [
    | inl t ↦
        let accessible : list_any (meets_last_hour clock end) c.outages ≡ false = rw t at h in
        rw (t, accessible) refl
    | inr f ↦ rw f refl
  ]

  pub goes_on_until_keeps : (end : ℤ) (grants : List Grant) (r : Reason) (next : Standing) → GoesOnUntil c clock row end grants r next → answer_from c clock row next ≡ with_grants c clock row (Some (AtInstant end)) grants
  goes_on_until_keeps end (ByHours n ∷ grants) (reason.Extended grant) next h =
      ap (answer_from c clock row) h.2
      ∙ and_then_extended c clock row _ (Some (AtInstant end)) (ByHours n) grants (extended_is c clock row (is_in_hours row.period) (Some (AtInstant end)) (ByHours n) h.1)
  goes_on_until_keeps end (Until d ∷ grants) (reason.Extended grant) next h =
      ap (answer_from c clock row) h.2
      ∙ and_then_extended c clock row _ (Some (AtInstant end)) (Until d) grants (extended_is c clock row (is_in_hours row.period) (Some (AtInstant end)) (Until d) (ap not h.1))
  goes_on_until_keeps end (Reset d ∷ grants) (reason.Extended grant) next h =
      ap (answer_from c clock row) h.1
      ∙ and_then_extended c clock row _ (Some (AtInstant end)) (Reset d) grants (extended_is c clock row (is_in_hours row.period) (Some (AtInstant end)) (Reset d) refl)
  goes_on_until_keeps end (ResetAt at ∷ grants) (reason.Extended grant) next h =
      ap (answer_from c clock row) h.1
      ∙ and_then_extended c clock row _ (Some (AtInstant end)) (ResetAt at) grants (extended_is c clock row (is_in_hours row.period) (Some (AtInstant end)) (ResetAt at) refl)
  goes_on_until_keeps end (g ∷ grants) (reason.NotExtended grant) next h =
      ap (answer_from c clock row) h.2
      ∙ and_then_extended c clock row None (Some (AtInstant end)) g grants (nothing_from_instant c clock row (is_in_hours row.period) end g h.1)
  goes_on_until_keeps end [] (reason.LastHour outage day second) next h =
      ap (answer_from c clock row) h.4 ∙ shut end day second h.0 (outage_meets end outage h.1.0 h.2) h.3
  goes_on_until_keeps end [] reason.NotCovered next h = ap (answer_from c clock row) h.2 ∙ shut_beyond end h.0 h.1
  goes_on_until_keeps end [] (reason.UntilInstant instant) next h = ap (answer_from c clock row) h.2 ∙ not_shut end h.0
  goes_on_until_keeps end grants r next h = absurd h

  pub closes_at_keeps : (end : ℤ) (r : Reason) (next : Standing) → ClosesAt end r next → answer_from c clock row next ≡ shown_end (act_due row) (Some (AtInstant end))
  closes_at_keeps end (reason.UntilInstant instant) next h = ap (answer_from c clock row) h.1
  closes_at_keeps end r next h = absurd h
