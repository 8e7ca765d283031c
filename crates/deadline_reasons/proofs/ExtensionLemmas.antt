-- An extension, or an order, that leads on from an end follows there; of one that doesn't, it follows that it gives none.
use Rattle.std.proofs.Common.{◌≡◌, ℕ, ◌*◌, ℤ, Bool, true, false, List, [], ◌∷◌, Option, Some, None, option_map, refl, ap}
use Rattle.court_clock.specs.Words.{ClockView, instant_of}
use Rattle.court_days.specs.Words.{DaysView}
use Rattle.rule_periods.specs.declared.expiry.Expiry.{Expiry}
use Rattle.rule_periods.specs.declared.expiry.Expiry.TheVariants.{OnDay, AtInstant}
use Rattle.rule_periods.specs.declared.grant.Grant.{Grant}
use Rattle.rule_periods.specs.declared.grant.Grant.TheVariants.{ByDays, ByHours, Until, Reset, ResetAt}
use Rattle.rule_periods.specs.Words.{DeadlineRowView, EventView, is_in_hours}
use Rattle.deadline_reasons.specs.declared.reason.Reason.TheVariants as reason
use Rattle.deadline_reasons.specs.Follows.{Follows}
use Rattle.deadline_reasons.specs.Inside.Leading.{with_day, with_end, with_instant, last_day, last_instant, leads}
use Rattle.deadline_reasons.specs.Standing.{Runs, RunsUntil, Nowhere}

-- a last day, or an instant, as an end
pub end_with_day : (last : Option ℤ) (end : Option Expiry) (grants : List Grant) → end ≡ option_map OnDay last → with_end end grants ≡ with_day last (record { three = false; grants = grants })
end_with_day (Some last) end grants same = ap (λ e. with_end e grants) same
end_with_day None end grants same = ap (λ e. with_end e grants) same

pub end_with_instant : (at : Option ℤ) (end : Option Expiry) (grants : List Grant) → end ≡ option_map AtInstant at → with_end end grants ≡ with_instant at grants
end_with_instant (Some at) end grants same = ap (λ e. with_end e grants) same
end_with_instant None end grants same = ap (λ e. with_end e grants) same

some_is : (a b : ℤ) → Some a ≡ Some b → b ≡ a
some_is a b same = cc

-- the end from which time is extended, and that it is of the period's kind
pub last_day_is : (hours : Bool) (end : Option Expiry) (day : ℤ) → Some day ≡ last_day hours end → (end ≡ Some (OnDay day)) × (hours ≡ false)
last_day_is false (Some (OnDay last)) day h = (ap (λ d. Some (OnDay d)) (some_is day last h), refl)
last_day_is false (Some (AtInstant at)) day h = absurd (cc)
last_day_is false None day h = absurd (cc)
last_day_is true end day h = absurd (cc)

pub last_instant_is : (hours : Bool) (end : Option Expiry) (at : ℤ) → Some at ≡ last_instant hours end → (end ≡ Some (AtInstant at)) × (hours ≡ true)
last_instant_is true (Some (AtInstant last)) at h = (ap (λ t. Some (AtInstant t)) (some_is at last h), refl)
last_instant_is true (Some (OnDay last)) at h = absurd (cc)
last_instant_is true None at h = absurd (cc)
last_instant_is false end at h = absurd (cc)

-- without one nothing is extended so
pub no_last_day : (hours : Bool) (end : Option Expiry) (n : ℕ) → None ≡ last_day hours end → leads hours end (ByDays n) ≡ false
no_last_day false (Some (OnDay last)) n h = absurd (cc)
no_last_day true (Some (OnDay last)) n h = refl
no_last_day hours (Some (AtInstant at)) n h = refl
no_last_day hours None n h = refl

pub no_last_instant : (hours : Bool) (end : Option Expiry) (n : ℕ) → None ≡ last_instant hours end → leads hours end (ByHours n) ≡ false
no_last_instant true (Some (AtInstant at)) n h = absurd (cc)
no_last_instant false (Some (AtInstant at)) n h = refl
no_last_instant hours (Some (OnDay last)) n h = refl
no_last_instant hours None n h = refl

-- a period in hours isn't extended to a date certain
pub no_date : (hours : Bool) (end : Option Expiry) (d : ℤ) → hours ≡ true → leads hours end (Until d) ≡ false
no_date true (Some (OnDay last)) d h = refl
no_date true (Some (AtInstant at)) d h = refl
no_date true None d h = refl
no_date false end d h = absurd (cc)

module _ (c : DaysView) (clock : ClockView) (row : DeadlineRowView) where
  pub date_follows : (end : Option Expiry) (d : ℤ) (grants : List Grant) → is_in_hours row.period ≡ false → Follows c clock row (with_end end (Until d ∷ grants)) (reason.Extended (Until d)) (Runs d (record { three = false; grants = grants }))
  date_follows (Some (OnDay last)) d grants days = (refl, days, refl)
  date_follows (Some (AtInstant at)) d grants days = (refl, days, refl)
  date_follows None d grants days = (refl, days, refl)

  -- an order's end follows from any end, and from none
  pub day_follows : (end : Option Expiry) (d : ℤ) (grants : List Grant) → Follows c clock row (with_end end (Reset d ∷ grants)) (reason.Extended (Reset d)) (Runs d (record { three = false; grants = grants }))
  day_follows (Some (OnDay last)) d grants = (refl, refl)
  day_follows (Some (AtInstant at)) d grants = (refl, refl)
  day_follows None d grants = (refl, refl)

  pub time_follows : (end : Option Expiry) (at : EventView) (instant : ℤ) (grants : List Grant) → instant ≡ instant_of clock.zone at.day (60 * at.minute) → Follows c clock row (with_end end (ResetAt at ∷ grants)) (reason.Extended (ResetAt at)) (RunsUntil instant grants)
  time_follows (Some (OnDay last)) at instant grants is = (refl, ap (λ t. RunsUntil t grants) is)
  time_follows (Some (AtInstant end)) at instant grants is = (refl, ap (λ t. RunsUntil t grants) is)
  time_follows None at instant grants is = (refl, ap (λ t. RunsUntil t grants) is)

  -- what doesn't lead on from an end gives none
  pub nothing_follows : (end : Option Expiry) (g : Grant) (grants : List Grant) → leads (is_in_hours row.period) end g ≡ false → Follows c clock row (with_end end (g ∷ grants)) (reason.NotExtended g) (Nowhere grants)
  nothing_follows (Some (OnDay last)) (ByDays n) grants h = (refl, h, refl)
  nothing_follows (Some (OnDay last)) (ByHours n) grants h = (refl, h, refl)
  nothing_follows (Some (OnDay last)) (Until d) grants h = (refl, h, refl)
  nothing_follows (Some (OnDay last)) (Reset d) grants h = (refl, h, refl)
  nothing_follows (Some (OnDay last)) (ResetAt at) grants h = (refl, h, refl)
  nothing_follows (Some (AtInstant end)) (ByDays n) grants h = (refl, h, refl)
  nothing_follows (Some (AtInstant end)) (ByHours n) grants h = (refl, h, refl)
  nothing_follows (Some (AtInstant end)) (Until d) grants h = (refl, h, refl)
  nothing_follows (Some (AtInstant end)) (Reset d) grants h = (refl, h, refl)
  nothing_follows (Some (AtInstant end)) (ResetAt at) grants h = (refl, h, refl)
  nothing_follows None (ByDays n) grants h = (refl, h, refl)
  nothing_follows None (ByHours n) grants h = (refl, h, refl)
  nothing_follows None (Until d) grants h = (refl, h, refl)
  nothing_follows None (Reset d) grants h = (refl, h, refl)
  nothing_follows None (ResetAt at) grants h = (refl, h, refl)
