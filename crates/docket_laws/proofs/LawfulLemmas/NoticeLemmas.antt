-- That a hearing has its notice.
use Rattle.std.proofs.Common.{◌≡◌, ℤ, ◌≤ℤ◌, int_lt, true, false, Bool, is_none, Option, Some, None, arith, inl, inr, if◌then◌else◌}
use Rattle.std.specs.Option.{IsSomeAnd, option_and_then}
use Rattle.std.proofs.lemmas.Bool.{cases_Bool}
use Rattle.std.proofs.lemmas.Int.{ints}
use Rattle.court_clock.specs.Words.{later_day}
use Rattle.court_days.specs.Words.{DaysView}
use Rattle.rule_periods.specs.Words.{notice_of}
use Rattle.hearing_slots.specs.declared.need.Need.{Need}
use Rattle.hearing_slots.specs.declared.need.Need.TheVariants as need
use Rattle.docket_rows.specs.Words.{IsNoticed, is_notice_length, lacks_last_service, missed_service}

-- both days are at or before the last one, where the later of them is
served_in_time : (served notice latest : ℤ) → (if int_lt latest (later_day served notice) then Some latest else None) ≡ None → (served ≤ℤ latest) × (notice ≤ℤ latest)
served_in_time served notice latest h = elim (cases_Bool (int_lt latest (later_day served notice))) [
  | inl late ↦ (let some : Some latest ≡ None = rw late at h in absurd cc)
  | inr timely ↦ (grind (arith, ints), grind (arith, ints))
]

by_last_service : (has_length : Bool) (latest : Option ℤ) (served notice : ℤ) → is_none (if has_length then latest else None) ≡ false → option_and_then (λ day. if int_lt day (later_day served notice) then Some day else None) (if has_length then latest else None) ≡ None → IsSomeAnd latest (λ day. (served ≤ℤ day) × (notice ≤ℤ day))
by_last_service false latest served notice some missed = absurd cc
by_last_service true None served notice some missed = absurd cc
by_last_service true (Some day) served notice some missed = served_in_time served notice day missed

-- a last day to serve exists, and neither the motion nor the notice was served after it
pub noticed_of : (days : DaysView) (hearing : ℤ) (n : Need) (served notice : ℤ) → lacks_last_service days hearing n ≡ false → missed_service days hearing n (later_day served notice) ≡ None → IsNoticed days hearing n served notice
noticed_of days hearing need.ExParte served notice some missed = tt
noticed_of days hearing (need.Days n) served notice some missed = by_last_service (is_notice_length n) (notice_of days hearing n) served notice some missed
