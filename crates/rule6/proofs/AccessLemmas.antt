-- When a second of the last hour lies inside an outage.
use Rattle.std.proofs.Common.{◌≡◌, ◌⊎◌, inl, inr, ℕ, zero, suc, ◌*◌, ◌<◌, ◌≤◌, ℤ, pos, neg_ℤ, ◌+ℤ◌, ◌-ℤ◌, ◌≤ℤ◌, ◌<ℤ◌, int_le, true, false, ◌&&◌, nat_le, nat_lt, refl, sym, ◌∙◌, ap, arith}
use Rattle.std.proofs.lemmas.Int.{ints}
use Rattle.std.proofs.lemmas.Bool.{cases_Bool, false_from_ne_true}
use Rattle.std.proofs.lemmas.Bool.Decides.{Decides-int_eq}
use Rattle.std.specs.Ordering.{int_eq}
use Rattle.court_clock.specs.Words.{ClockView, CivilTime, offset_seconds, shown_second, second_of, civil_time}
use Rattle.court_days.specs.Words.{OutageView}
use Rattle.rule6.specs.Access.{is_inside, meets_within, meets_last_hour, LastHourIsBySeconds}
use Rattle.rule6.proofs.HourLemmas.{second_below, shown_is, is_instant}

-- a civil time inside an outage
record IsInside (o : OutageView) (shown : CivilTime) : Type 0 where
  on_its_day : shown.day ≡ o.day
  not_before_it : (60 * o.from) ≤ shown.second
  not_after_it : shown.second < (60 * o.to)

inside_is : (o : OutageView) (shown : CivilTime) → is_inside o shown ≡ true → IsInside o shown
inside_is o shown h = elim (cases_Bool (int_eq o.day shown.day)) [
  | inl same ↦
      let minutes : nat_le (60 * o.from) shown.second && nat_lt shown.second (60 * o.to) ≡ true = rw same at h in
      record {
        on_its_day = sym ((Decides-int_eq o.day shown.day).0 same);
        not_before_it = grind (arith, ints);
        not_after_it = grind (arith, ints);
      }
  | inr other ↦ (let clash : false ≡ true = rw other at h in absurd (cc))
]

is_inside-true : (o : OutageView) (shown : CivilTime) → IsInside o shown → is_inside o shown ≡ true
is_inside-true o shown h =
    let same : int_eq o.day shown.day ≡ true = (Decides-int_eq o.day shown.day).1 (sym h.on_its_day) in
    rw same (grind (arith, h.not_before_it, h.not_after_it))

-- where the clock shows a second between the ends of an outage, its time is inside
pub inside_between : (clock : ClockView) (o : OutageView) (t : ℤ) → o.to ≤ 1440 → second_of o.day (60 * o.from) ≤ℤ shown_second clock.zone t → shown_second clock.zone t <ℤ second_of o.day (60 * o.to) → is_inside o (civil_time clock.zone t) ≡ true
inside_between clock o t within low high =
    let day : (civil_time clock.zone t).day ≡ o.day = omega (arith, ints, shown_is clock t, second_below clock t, low, high, within) in
    is_inside-true o (civil_time clock.zone t) record {
      on_its_day = day;
      not_before_it = omega (arith, ints, shown_is clock t, low, day);
      not_after_it = omega (arith, ints, shown_is clock t, high, day);
    }

-- and elsewhere it isn't
pub outside_before : (clock : ClockView) (o : OutageView) (t : ℤ) → shown_second clock.zone t <ℤ second_of o.day (60 * o.from) → is_inside o (civil_time clock.zone t) ≡ false
outside_before clock o t before = false_from_ne_true (is_inside o (civil_time clock.zone t)) (λ inside.
    let is = inside_is o (civil_time clock.zone t) inside in
    omega (arith, ints, shown_is clock t, before, is.on_its_day, is.not_before_it))

pub outside_after : (clock : ClockView) (o : OutageView) (t : ℤ) → second_of o.day (60 * o.to) ≤ℤ shown_second clock.zone t → is_inside o (civil_time clock.zone t) ≡ false
outside_after clock o t after = false_from_ne_true (is_inside o (civil_time clock.zone t)) (λ inside.
    let is = inside_is o (civil_time clock.zone t) inside in
    omega (arith, ints, shown_is clock t, after, is.on_its_day, is.not_after_it))

-- a number that is no instant lies inside no outage
pub outside_beyond : (clock : ClockView) (o : OutageView) (t : ℤ) → neg_ℤ (pos 110_000) ≤ℤ o.day → o.day ≤ℤ pos 110_000 → t <ℤ neg_ℤ (pos 9_600_000_000) → is_inside o (civil_time clock.zone t) ≡ false
outside_beyond clock o t low high beyond = false_from_ne_true (is_inside o (civil_time clock.zone t)) (λ inside.
    let is = inside_is o (civil_time clock.zone t) inside in
    let instant = is_instant clock t (omega (arith, ints, is.on_its_day, low)) (omega (arith, ints, is.on_its_day, high)) in
    omega (arith, ints, instant.low, beyond))

-- the search finds a second that lies inside
pub met_at : (clock : ClockView) (o : OutageView) (first : ℤ) (n : ℕ) (t : ℤ) → first ≤ℤ t → t <ℤ (first +ℤ pos n) → is_inside o (civil_time clock.zone t) ≡ true → meets_within clock o first n ≡ true
unfolding meets_within
met_at clock o first zero t low high inside = absurd (omega (arith, ints, low, high))
met_at clock o first (suc n) t low high inside = elim (cases_Bool (is_inside o (civil_time clock.zone first))) [
  | inl here ↦ rw here refl
  | inr not_here ↦ rw not_here (met_at clock o (first +ℤ pos 1) n t (elim (cases_Bool (int_le t first)) [
    | inl same ↦
        let equal : t ≡ first = omega (arith, ints, same, low) in
        let clash : true ≡ false = sym inside ∙ ap (λ v. is_inside o (civil_time clock.zone v)) equal ∙ not_here in
        absurd (cc)
    | inr later ↦ omega (arith, ints, later)
  ]) (omega (arith, ints, high)) inside)
]

-- and it finds none where none does
pub met_nowhere : (clock : ClockView) (o : OutageView) (first : ℤ) (n : ℕ) → ((t : ℤ) → first ≤ℤ t → t <ℤ (first +ℤ pos n) → is_inside o (civil_time clock.zone t) ≡ false) → meets_within clock o first n ≡ false
unfolding meets_within
met_nowhere clock o first zero none = refl
met_nowhere clock o first (suc n) none =
    rw (none first (omega (arith, ints)) (omega (arith, ints))) (met_nowhere clock o (first +ℤ pos 1) n (λ t low high. none t (omega (arith, ints, low)) (omega (arith, ints, high))))

-- a second that the search finds
met_second : (clock : ClockView) (o : OutageView) (first : ℤ) (n : ℕ) → meets_within clock o first n ≡ true → (t : ℤ) × (first ≤ℤ t) × (t <ℤ (first +ℤ pos n)) × IsInside o (civil_time clock.zone t)
unfolding meets_within
met_second clock o first zero met = absurd (cc)
met_second clock o first (suc n) met = elim (cases_Bool (is_inside o (civil_time clock.zone first))) [
  | inl here ↦ (first, omega (arith, ints), omega (arith, ints), inside_is o (civil_time clock.zone first) here)
  | inr not_here ↦
      let later : meets_within clock o (first +ℤ pos 1) n ≡ true = rw not_here at met in
      let found = met_second clock o (first +ℤ pos 1) n later in
      (found.0, omega (arith, ints, found.1), omega (arith, ints, found.2), found.3)
]

pub last_hour_law : LastHourIsBySeconds
last_hour_law clock end o = (
  λ met.
      let found = met_second clock o (end -ℤ pos 3600) 3600 met in (
        found.0,
        record {
          in_last_hour = found.1;
          before_end = omega (arith, ints, found.2);
          on_its_day = found.3.on_its_day;
          not_before_it = found.3.not_before_it;
          not_after_it = found.3.not_after_it;
        },
      ),
  λ met.
      met_at clock o (end -ℤ pos 3600) 3600 met.0 met.1.in_last_hour (omega (arith, ints, met.1.before_end)) (is_inside-true o (civil_time clock.zone met.0) record {
        on_its_day = met.1.on_its_day;
        not_before_it = met.1.not_before_it;
        not_after_it = met.1.not_after_it;
      }),
)

-- through a stretch of one offset the clock shows the seconds from a first to a last, so an outage that overlaps
-- them is met
pub stretch_meets : (clock : ClockView) (end : ℤ) (o : OutageView) (first stop offset : ℤ) → o.from < o.to → o.to ≤ 1440 → (end -ℤ pos 3600) ≤ℤ first → first <ℤ stop → stop ≤ℤ end → ((t : ℤ) → first ≤ℤ t → t <ℤ stop → offset_seconds clock.zone t ≡ offset) → second_of o.day (60 * o.from) <ℤ (stop +ℤ offset) → (first +ℤ offset) <ℤ second_of o.day (60 * o.to) → true ≡ meets_last_hour clock end o
stretch_meets clock end o first stop offset ordered within low some high steady begins ends =
    elim (cases_Bool (int_le (second_of o.day (60 * o.from)) (first +ℤ offset))) [
      | inl before ↦
          let same : offset_seconds clock.zone first ≡ offset = steady first (omega (arith, ints)) some in
          let inside = inside_between clock o first within (omega (arith, ints, before, same)) (omega (arith, ints, ends, same)) in
          sym (met_at clock o (end -ℤ pos 3600) 3600 first low (omega (arith, ints, some, high)) inside)
      | inr after ↦
          let t : ℤ = second_of o.day (60 * o.from) -ℤ offset in
          let same : offset_seconds clock.zone t ≡ offset = steady t (omega (arith, ints, after)) (omega (arith, ints, begins)) in
          let inside = inside_between clock o t within (omega (arith, ints, same)) (omega (arith, ints, same, ordered)) in
          sym (met_at clock o (end -ℤ pos 3600) 3600 t (omega (arith, ints, low, after)) (omega (arith, ints, begins, high)) inside)
    ]

-- and one that doesn't overlap them isn't met
pub stretch_misses : (clock : ClockView) (o : OutageView) (first stop offset t : ℤ) → offset_seconds clock.zone t ≡ offset → first ≤ℤ t → t <ℤ stop → ((stop +ℤ offset) ≤ℤ second_of o.day (60 * o.from)) ⊎ (second_of o.day (60 * o.to) ≤ℤ (first +ℤ offset)) → is_inside o (civil_time clock.zone t) ≡ false
stretch_misses clock o first stop offset t same low high apart = elim apart [
  | inl before ↦ outside_before clock o t (omega (arith, ints, before, same, high))
  | inr after ↦ outside_after clock o t (omega (arith, ints, after, same, low))
]

-- where no second of the last hour lies inside an outage, none is met
pub hour_misses : (clock : ClockView) (end : ℤ) (o : OutageView) → ((t : ℤ) → (end -ℤ pos 3600) ≤ℤ t → t <ℤ end → is_inside o (civil_time clock.zone t) ≡ false) → false ≡ meets_last_hour clock end o
hour_misses clock end o none = sym (met_nowhere clock o (end -ℤ pos 3600) 3600 (λ t low high. none t low (omega (arith, ints, high))))
