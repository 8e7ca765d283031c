-- The end of hours is the instant that is counted, or the same time of day on the nearest permitted day.
use Rattle.std.proofs.Common.{◌≡◌, ◌⊎◌, inl, inr, ◌<◌, ℕ, ℤ, true, false, eqb, Option, Some, None, option_map, refl, sym, ◌∙◌, ap, arith}
use Rattle.std.proofs.lemmas.Int.{ints}
use Rattle.std.proofs.lemmas.Bool.{cases_Bool}
use Rattle.std.proofs.lemmas.Bool.Decides.{Decides-eqb, Decides-int_eq}
use Rattle.std.specs.Ordering.{int_eq}
use Rattle.std.specs.Option.{unwrap_or, option_and_then}
use Rattle.court_clock.specs.declared.direction.Direction.{Direction}
use Rattle.court_clock.specs.Words.{ClockView, CivilTime, InstantsAreEarliest, IsInstantOf, Shows, is_ruled, is_day_number, civil_time, civil_of, instant_of}
use Rattle.court_days.specs.Words.{DaysView, RolledIsNearest, is_permitted, rolled}
use Rattle.rule6.specs.Hours.{IsContinued, IsEndOfHours, EndOfHoursIsCounted, continued, end_of_hours_from, hours_from, same_time_on}
use Rattle.rule6.proofs.HourLemmas.{second_below}
use Rattle.rule6.proofs.DayLemmas.{found_twice}

held : {A : Type 0} (a b : A) → Some a ≡ Some b → a ≡ b
held a b h = ap (λ o. unwrap_or o a) h

mapped : {A B : Type 0} (f : A → B) (o : Option A) (b : B) → option_map f o ≡ Some b → (a : A) × ((o ≡ Some a) × (f a ≡ b))
mapped f None b h = absurd (cc)
mapped f (Some a) b h = (a, (refl, held (f a) b h))

abbrev time_at : ℤ → ℕ → CivilTime
time_at day second = record { day = day; second = second }

same_time : (s : CivilTime) (day : ℤ) (second : ℕ) → s.day ≡ day → s.second ≡ second → s ≡ time_at day second
same_time s day second d n = ap (λ v. time_at v s.second) d ∙ ap (time_at day) n

-- what the clock shows, where it shows a day
civil_is : (clock : ClockView) (t : ℤ) (shown : CivilTime) → civil_of clock.zone t ≡ Some shown → (is_day_number shown.day ≡ true) × (civil_time clock.zone t ≡ shown)
unfolding civil_of
civil_is clock t shown h = elim (cases_Bool (is_day_number (civil_time clock.zone t).day)) [
  | inl day ↦
      let same : Some (civil_time clock.zone t) ≡ Some shown = rw day at h in
      let is = held (civil_time clock.zone t) shown same in
      (ap (λ s. is_day_number s.day) (sym is) ∙ day, is)
  | inr other ↦ (let clash : None ≡ Some shown = rw other at h in absurd (cc))
]

is_civil : (clock : ClockView) (t : ℤ) (shown : CivilTime) → is_day_number shown.day ≡ true → civil_time clock.zone t ≡ shown → civil_of clock.zone t ≡ Some shown
unfolding civil_of
is_civil clock t shown day is = rw (is, day) refl

shows_or_not : (clock : ClockView) (day : ℤ) (second : ℕ) (t : ℤ) → Shows clock.zone day second t ⊎ ¬ Shows clock.zone day second t
shows_or_not clock day second t = elim (cases_Bool (int_eq (civil_time clock.zone t).day day)) [
  | inl d ↦ elim (cases_Bool (eqb (civil_time clock.zone t).second second)) [
    | inl n ↦ inl (same_time (civil_time clock.zone t) day second ((Decides-int_eq (civil_time clock.zone t).day day).0 d) ((Decides-eqb (civil_time clock.zone t).second second).0 n))
    | inr n ↦ inr (λ shown.
        let clash : true ≡ false = sym ((Decides-eqb (civil_time clock.zone t).second second).1 (ap (λ s. s.second) shown)) ∙ n in
        absurd (cc))
  ]
  | inr d ↦ inr (λ shown.
      let clash : true ≡ false = sym ((Decides-int_eq (civil_time clock.zone t).day day).1 (ap (λ s. s.day) shown)) ∙ d in
      absurd (cc))
]

-- a civil time has one instant
one_instant : (clock : ClockView) (day : ℤ) (second : ℕ) (a b : ℤ) → IsInstantOf clock.zone day second a → IsInstantOf clock.zone day second b → a ≡ b
one_instant clock day second a b is_a is_b = elim (shows_or_not clock day second a) [
  | inl shows ↦ omega (arith, ints, is_b.earliest a shows, is_a.earliest b (is_b.shown a shows))
  | inr never ↦ is_a.shifted (λ t shown. never (is_a.shown t shown)) ∙ sym (is_b.shifted (λ t shown. never (is_a.shown t shown)))
]

-- an end that is kept
kept_end : (c : DaysView) (clock : ClockView) (direction : Direction) (t : ℤ) (shown : CivilTime) (end : ℤ) → continued c clock direction t shown ≡ Some end → is_permitted c direction shown.day ≡ true → end ≡ t
kept_end c clock direction t shown end h permitted =
    let same : Some t ≡ Some end = rw permitted at h in
    sym (held t end same)

-- and one that is continued
continued_end : RolledIsNearest → InstantsAreEarliest → (c : DaysView) (clock : ClockView) (direction : Direction) (t : ℤ) (shown : CivilTime) (end : ℤ) → is_ruled clock.zone ≡ true → shown.second < 86_400 → continued c clock direction t shown ≡ Some end → is_permitted c direction shown.day ≡ false → IsContinued c clock direction shown end
continued_end rolls instants c clock direction t shown end ruled below h other =
    let later : same_time_on clock shown.second (rolled c shown.day direction) ≡ Some end = rw other at h in
    let found = mapped (λ d. instant_of clock.zone d shown.second) (rolled c shown.day direction) end later in
    let instant = instants clock.zone found.0 shown.second ruled below in
    record {
      next = found.0;
      nearest = (rolls c shown.day found.0 direction).0 found.1.0;
      same_time = rw found.1.1 at instant;
    }

is_continued : RolledIsNearest → InstantsAreEarliest → (c : DaysView) (clock : ClockView) (direction : Direction) (t : ℤ) (shown : CivilTime) (end : ℤ) → is_ruled clock.zone ≡ true → shown.second < 86_400 → is_permitted c direction shown.day ≡ false → IsContinued c clock direction shown end → continued c clock direction t shown ≡ Some end
is_continued rolls instants c clock direction t shown end ruled below other is =
    let next = (rolls c shown.day is.next direction).1 is.nearest in
    let same = one_instant clock is.next shown.second (instant_of clock.zone is.next shown.second) end (instants clock.zone is.next shown.second ruled below) is.same_time in
    rw (other, next) (ap Some same)

is_kept : (c : DaysView) (clock : ClockView) (direction : Direction) (t : ℤ) (shown : CivilTime) (end : ℤ) → is_permitted c direction shown.day ≡ true → end ≡ t → continued c clock direction t shown ≡ Some end
is_kept c clock direction t shown end permitted same = rw permitted (ap Some (sym same))

end_is : RolledIsNearest → InstantsAreEarliest → (c : DaysView) (clock : ClockView) (event : ℤ) (h : ℕ) (direction : Direction) (end : ℤ) → is_ruled clock.zone ≡ true → end_of_hours_from c clock event h direction ≡ Some end → IsEndOfHours c clock event h direction end
unfolding end_of_hours_from
end_is rolls instants c clock event h direction end ruled is =
    let found = found_twice (continued c clock direction (hours_from event h direction)) (civil_of clock.zone (hours_from event h direction)) end is in
    let civil = civil_is clock (hours_from event h direction) found.0 found.1.0 in
    let below : found.0.second < 86_400 = rw civil.1 at (second_below clock (hours_from event h direction)) in
    record {
      counted = hours_from event h direction;
      every_hour = refl;
      shown = found.0;
      is_shown = civil.1;
      is_a_day = civil.0;
      kept = kept_end c clock direction (hours_from event h direction) found.0 end found.1.1;
      continued_else = continued_end rolls instants c clock direction (hours_from event h direction) found.0 end ruled below found.1.1;
    }

is_end : RolledIsNearest → InstantsAreEarliest → (c : DaysView) (clock : ClockView) (event : ℤ) (h : ℕ) (direction : Direction) (end : ℤ) → is_ruled clock.zone ≡ true → IsEndOfHours c clock event h direction end → end_of_hours_from c clock event h direction ≡ Some end
unfolding end_of_hours_from
is_end rolls instants c clock event h direction end ruled is =
    let shows : civil_time clock.zone (hours_from event h direction) ≡ is.shown = ap (civil_time clock.zone) (sym is.every_hour) ∙ is.is_shown in
    let civil = is_civil clock (hours_from event h direction) is.shown is.is_a_day shows in
    let below : is.shown.second < 86_400 = rw shows at (second_below clock (hours_from event h direction)) in
    ap (option_and_then (continued c clock direction (hours_from event h direction))) civil
    ∙ elim (cases_Bool (is_permitted c direction is.shown.day)) [
      | inl permitted ↦ is_kept c clock direction (hours_from event h direction) is.shown end permitted (is.kept permitted ∙ is.every_hour)
      | inr other ↦ is_continued rolls instants c clock direction (hours_from event h direction) is.shown end ruled below other (is.continued_else other)
    ]

pub end_law : RolledIsNearest → InstantsAreEarliest → EndOfHoursIsCounted
end_law rolls instants c clock event h direction end ruled =
    (end_is rolls instants c clock event h direction end ruled, is_end rolls instants c clock event h direction end ruled)
