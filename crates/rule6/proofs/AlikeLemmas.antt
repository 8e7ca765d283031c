-- By two values that stand for one clock the same time is found, and the same acts are in time.
use Rattle.std.proofs.Common.{◌≡◌, ◌∙◌, ◌*◌, ◌+ℤ◌, ◌-ℤ◌, ℕ, zero, suc, ℤ, pos, Bool, List, [], ◌∷◌, Option, Some, None, cond, option_and_then, refl, ap, int_le}
use Rattle.std.specs.List.{list_any}
use Rattle.court_clock.specs.declared.direction.Direction.{Direction}
use Rattle.court_clock.specs.Words.{CivilTime, ClockView, IsSameCourtClock, civil_of}
use Rattle.court_days.specs.Words.{DaysView, OutageView, is_permitted, next_accessible, rolled}
use Rattle.court_clock.proofs.CallerLemmas.{civil_of_alike, civil_time_alike, instant_alike}
use Rattle.rule6.specs.declared.timeliness.Act.TheVariants as act
use Rattle.rule6.specs.declared.timeliness.Act.{Act}
use Rattle.rule6.specs.declared.timeliness.Filing.{Filing}
use Rattle.rule6.specs.declared.timeliness.Means.{Means}
use Rattle.rule6.specs.declared.timeliness.Means.TheVariants as means
use Rattle.rule6.specs.declared.timeliness.Shown.{Shown}
use Rattle.rule6.specs.declared.timeliness.Shown.TheVariants.{Last, Until, Beyond}
use Rattle.rule6.specs.Access.{extended_end, meets_last_hour, meets_within}
use Rattle.rule6.specs.Hours.{continued, end_of_hours_from, hours_from, same_time_on}
use Rattle.rule6.specs.Timeliness.{is_by, is_in_time, is_within_the_day}

-- functions that agree at each value give the same
pub and_then_alike : {A B : Type 0} → (f g : A → Option B) (o : Option A) → ((x : A) → f x ≡ g x) → option_and_then f o ≡ option_and_then g o
and_then_alike f g None each = refl
and_then_alike f g (Some x) each = each x

any_alike : {A : Type 0} → (f g : A → Bool) (xs : List A) → ((x : A) → f x ≡ g x) → list_any f xs ≡ list_any g xs
any_alike f g [] each = refl
any_alike f g (x ∷ xs) each = rw (each x, any_alike f g xs each) refl

module _ (a b : ClockView) (same : IsSameCourtClock a b) where
  same_time_alike : (second : ℕ) (day : Option ℤ) → same_time_on a second day ≡ same_time_on b second day
  same_time_alike second None = refl
  same_time_alike second (Some day) = ap Some (instant_alike a.zone b.zone same.zone day second)

  pub end_of_hours_alike : (c : DaysView) (event : ℤ) (h : ℕ) (direction : Direction) → end_of_hours_from c a event h direction ≡ end_of_hours_from c b event h direction
  unfolding end_of_hours_from
  end_of_hours_alike c event h direction =
      let end : ℤ = hours_from event h direction in
      ap (λ o. option_and_then (continued c a direction end) o) (civil_of_alike a.zone b.zone same.zone end)
      ∙ and_then_alike (continued c a direction end) (continued c b direction end) (civil_of b.zone end) (λ shown.
      ap (λ r. cond (is_permitted c direction shown.day) (Some end) r) (same_time_alike shown.second (rolled c shown.day direction)))

  meets_alike : (o : OutageView) (first : ℤ) (n : ℕ) → meets_within a o first n ≡ meets_within b o first n
  unfolding meets_within
  meets_alike o first zero = refl
  meets_alike o first (suc n) = rw (civil_time_alike a.zone b.zone same.zone first, meets_alike o (first +ℤ pos 1) n) refl

  pub extended_end_alike : (c : DaysView) (end : ℤ) (direction : Direction) → extended_end c a end direction ≡ extended_end c b end direction
  unfolding extended_end
  extended_end_alike c end direction =
      let moved : (clock : ClockView) → Option ℤ = λ clock. option_and_then (λ shown. same_time_on clock shown.second (next_accessible c direction shown.day)) (civil_of clock.zone end) in
      let same_end : moved a ≡ moved b =
      ap (λ o. option_and_then (λ (shown : CivilTime). same_time_on a shown.second (next_accessible c direction shown.day)) o) (civil_of_alike a.zone b.zone same.zone end)
      ∙ and_then_alike _ _ (civil_of b.zone end) (λ shown. same_time_alike shown.second (next_accessible c direction shown.day)) in
      ap (λ met. cond met (moved a) (Some end)) (any_alike (meets_last_hour a end) (meets_last_hour b end) c.outages (λ o. meets_alike o (end -ℤ pos 3600) 3600))
      ∙ ap (λ e. cond (list_any (meets_last_hour b end) c.outages) e (Some end)) same_end

  within_the_day_alike : (act : Act) (means : Means) (minute : ℕ) → is_within_the_day a act means minute ≡ is_within_the_day b act means minute
  within_the_day_alike act.Service means minute = refl
  within_the_day_alike act.Filing means.Electronic minute = ap (λ end. is_by end minute) same.efiling_until
  within_the_day_alike act.Filing means.Paper minute = rw same.closes refl

  pub in_time_alike : (shown : Shown) (filing : Filing) → is_in_time a shown filing ≡ is_in_time b shown filing
  unfolding is_in_time
  in_time_alike (Last day act) filing = rw (within_the_day_alike act filing.means filing.minute) refl
  in_time_alike (Until end) filing = ap (λ t. int_le t end) (instant_alike a.zone b.zone same.zone filing.day (60 * filing.minute))
  in_time_alike Beyond filing = refl
