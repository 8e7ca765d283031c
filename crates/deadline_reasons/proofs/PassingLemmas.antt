-- A day that is looked for: what the search finds, where one covered day after another is looked at.
use Rattle.std.proofs.Common.{◌≡◌, inl, inr, ℤ, pos, ◌+ℤ◌, ◌-ℤ◌, ◌≤ℤ◌, ◌<ℤ◌, Bool, true, false, Option, Some, None, if◌then◌else◌, refl, sym, ◌∙◌, ap, arith}
use Rattle.std.proofs.lemmas.Int.{ints}
use Rattle.std.proofs.lemmas.Bool.{cases_Bool}
use Rattle.court_clock.specs.declared.direction.Direction.{Direction}
use Rattle.court_clock.specs.declared.direction.Direction.TheVariants.{After, Before}
use Rattle.court_clock.specs.Words.{is_weekend, later_day}
use Rattle.court_days.specs.Words.{DaysView, is_among, is_covered, is_holiday, has_outage, is_open, is_permitted, earliest_day, latest_day, rolled, next_accessible}
use Rattle.court_days.proofs.CallerLemmas.{earliest_skips, earliest_finds, earliest_ends, latest_skips, latest_finds, latest_ends}
use Rattle.rule6.specs.Words.{next_day}
use Rattle.deadline_reasons.specs.declared.look.Look.{Look}
use Rattle.deadline_reasons.specs.declared.reason.Cause.{Cause}
use Rattle.deadline_reasons.specs.declared.reason.Cause.TheVariants.{Saturday, Sunday, FederalHoliday, StateHoliday, Inaccessible}
use Rattle.deadline_reasons.specs.Passing.{IsCause, away_from_event, for_access, day_later}

-- the nearest covered day that passes the test, from a covered day on
abbrev pub found : DaysView → Direction → (ℤ → Bool) → ℤ → Option ℤ
found c After test d = if is_covered c d then earliest_day c test d else None
found c Before test d = if is_covered c d then latest_day c test d else None

abbrev pub found_by : DaysView → Look → ℤ → Option ℤ
found_by c look d = found c look.going (is_open c look.holidays look.accessible) d

past_span : (c : DaysView) (d : ℤ) → is_covered c d ≡ true → is_covered c (d +ℤ pos 1) ≡ false → c.to <ℤ (d +ℤ pos 1)
past_span c d here next = grind (arith, ints)

before_span : (c : DaysView) (d : ℤ) → is_covered c d ≡ true → is_covered c (d -ℤ pos 1) ≡ false → (d -ℤ pos 1) <ℤ c.from
before_span c d here next = grind (arith, ints)

from_before : (c : DaysView) (d : ℤ) → is_covered c d ≡ true → c.from ≤ℤ (d +ℤ pos 1)
from_before c d here = grind (arith, ints)

to_after : (c : DaysView) (d : ℤ) → is_covered c d ≡ true → (d -ℤ pos 1) ≤ℤ c.to
to_after c d here = grind (arith, ints)

-- a covered day that fails is passed over
pub found_skips : (c : DaysView) (going : Direction) (test : ℤ → Bool) (d : ℤ) → is_covered c d ≡ true → test d ≡ false → found c going test (next_day going d) ≡ found c going test d
found_skips c After test d covered fails = elim (cases_Bool (is_covered c (d +ℤ pos 1))) [
  | inl next ↦ rw (next, covered) (earliest_skips c test d (d +ℤ pos 1) covered fails refl)
  | inr past ↦
      let none = earliest_ends c test (d +ℤ pos 1) (from_before c d covered) (past_span c d covered past) in
      rw (past, covered) (sym none ∙ earliest_skips c test d (d +ℤ pos 1) covered fails refl)
]
found_skips c Before test d covered fails = elim (cases_Bool (is_covered c (d -ℤ pos 1))) [
  | inl next ↦ rw (next, covered) (latest_skips c test d (d -ℤ pos 1) covered fails refl)
  | inr past ↦
      let none = latest_ends c test (d -ℤ pos 1) (to_after c d covered) (before_span c d covered past) in
      rw (past, covered) (sym none ∙ latest_skips c test d (d -ℤ pos 1) covered fails refl)
]

-- and one that passes is found
pub found_here : (c : DaysView) (going : Direction) (test : ℤ → Bool) (d : ℤ) → is_covered c d ≡ true → test d ≡ true → found c going test d ≡ Some d
found_here c After test d covered passes = rw covered (earliest_finds c test d covered passes)
found_here c Before test d covered passes = rw covered (latest_finds c test d covered passes)

pub found_none : (c : DaysView) (going : Direction) (test : ℤ → Bool) (d : ℤ) → is_covered c d ≡ false → found c going test d ≡ None
found_none c After test d uncovered = rw uncovered refl
found_none c Before test d uncovered = rw uncovered refl

-- looking away from the event is rolling
pub found_rolls : (c : DaysView) (direction : Direction) (d : ℤ) → found_by c (away_from_event direction) d ≡ rolled c d direction
unfolding rolled
found_rolls c After d = refl
found_rolls c Before d = refl

-- looking for access is looking for the next accessible day
pub found_accessible : (c : DaysView) (holidays : Direction) (d : ℤ) → found_by c (for_access holidays) (day_later c d) ≡ next_accessible c holidays d
unfolding next_accessible earliest_day
found_accessible c holidays d = elim (cases_Bool (is_covered c (day_later c d))) [
  | inl covered ↦
      let same : later_day (day_later c d) c.from ≡ day_later c d = grind (arith, ints) in
      rw (covered, same) refl
  | inr past ↦
      let low : c.from ≤ℤ day_later c d = grind (arith, ints) in
      let high : c.to <ℤ day_later c d = grind (arith, ints) in
      let same : later_day (day_later c d) c.from ≡ day_later c d = grind (arith, ints) in
      let none = earliest_ends c (is_open c holidays true) (day_later c d) low high in
      rw past (sym none ∙ rw same refl)
]

-- an open day is covered
permitted_covered : (c : DaysView) (holidays : Direction) (d : ℤ) → is_permitted c holidays d ≡ true → is_covered c d ≡ true
unfolding is_permitted
permitted_covered c holidays d h = grind arith

pub open_covered : (c : DaysView) (holidays : Direction) (accessible : Bool) (d : ℤ) → is_open c holidays accessible d ≡ true → is_covered c d ≡ true
open_covered c holidays false d h = permitted_covered c holidays d h
open_covered c holidays true d h =
    let permitted : is_permitted c holidays d ≡ true = grind arith in
    permitted_covered c holidays d permitted

-- a day with a cause isn't open
not_open : (c : DaysView) (holidays : Direction) (accessible : Bool) (d : ℤ) → is_permitted c holidays d ≡ false → is_open c holidays accessible d ≡ false
not_open c holidays false d h = h
not_open c holidays true d h = rw h refl

on_weekend : (c : DaysView) (holidays : Direction) (d : ℤ) → is_weekend d ≡ true → is_permitted c holidays d ≡ false
unfolding is_permitted
on_weekend c holidays d h = grind (arith, h)

on_holiday : (c : DaysView) (holidays : Direction) (d : ℤ) → is_holiday c holidays d ≡ true → is_permitted c holidays d ≡ false
unfolding is_permitted
on_holiday c holidays d h = grind (arith, h)

federal_holiday : (c : DaysView) (holidays : Direction) (d : ℤ) → is_among c.federal d ≡ true → is_holiday c holidays d ≡ true
federal_holiday c After d h = rw h refl
federal_holiday c Before d h = h

state_holiday : (c : DaysView) (holidays : Direction) (d : ℤ) → holidays ≡ After → is_among c.state d ≡ true → is_holiday c holidays d ≡ true
state_holiday c holidays d after h =
    let state : is_holiday c After d ≡ true = grind (arith, h) in
    ap (λ direction. is_holiday c direction d) after ∙ state

inaccessible : (c : DaysView) (holidays : Direction) (accessible : Bool) (d : ℤ) → accessible ≡ true → has_outage c d ≡ true → is_open c holidays accessible d ≡ false
inaccessible c holidays false d asked h = absurd (cc)
inaccessible c holidays true d asked h = grind (arith, h)

pub cause_closes : (c : DaysView) (look : Look) (d : ℤ) (cause : Cause) → IsCause c look d cause → is_open c look.holidays look.accessible d ≡ false
cause_closes c look d Saturday h = not_open c look.holidays look.accessible d (on_weekend c look.holidays d (rw h refl))
cause_closes c look d Sunday h = not_open c look.holidays look.accessible d (on_weekend c look.holidays d (rw h refl))
cause_closes c look d FederalHoliday h =
    not_open c look.holidays look.accessible d (on_holiday c look.holidays d (federal_holiday c look.holidays d h))
cause_closes c look d StateHoliday h =
    not_open c look.holidays look.accessible d (on_holiday c look.holidays d (state_holiday c look.holidays d h.0 h.1))
cause_closes c look d Inaccessible h = inaccessible c look.holidays look.accessible d h.0 h.1
