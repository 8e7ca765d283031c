-- What the searches find is the least or the greatest day, and what rolling gives is the nearest.
use Rattle.std.proofs.Common.{◌≡◌, ℤ, int_le, Bool, true, false, Some, None, refl, sym, ◌∙◌, ap, arith, inl, inr}
use Rattle.std.proofs.lemmas.Int.{ints}
use Rattle.std.proofs.lemmas.Bool.{cases_Bool, false_from_ne_true}
use Rattle.court_clock.specs.Words.{days_through, later_day, earlier_day}
use Rattle.court_clock.specs.declared.direction.Direction.{Direction}
use Rattle.court_clock.specs.declared.direction.Direction.TheVariants.{After, Before}
use Rattle.court_clock.proofs.CallerLemmas.{first_passing-is, first_passing-finds, last_passing-is, last_passing-finds, later_day-least, later_day-first, later_day-second, earlier_day-greatest, earlier_day-first, earlier_day-second, days_through-within, within-days_through, days_through-within_back, within-days_through_back}
use Rattle.court_days.specs.Days.{DaysView, is_covered, is_permitted}
use Rattle.court_days.proofs.DaysLemmas.SearchLemmas.{covered_after_from, covered_before_to, covered_from_bounds}
use Rattle.court_days.specs.Days.Search.{earliest_day, latest_day, IsEarliestDay, IsLatestDay, EarliestIsLeast, LatestIsGreatest}
use Rattle.court_days.specs.Days.Rolled.{rolled, IsRolled, RolledIsNearest}

-- no day both passes and fails
clash : {P : Type 0} (test : ℤ → Bool) (d e : ℤ) → d ≡ e → test d ≡ true → test e ≡ false → P
clash test d e same passes fails = let both : true ≡ false = sym passes ∙ ap test same ∙ fails in absurd (cc)

-- what the search forward finds is the least covered day that passes
pub earliest_day-is : (c : DaysView) (test : ℤ → Bool) (d r : ℤ) → earliest_day c test d ≡ Some r → IsEarliestDay c test d r
unfolding earliest_day
earliest_day-is c test d r h =
    let found = first_passing-is test (days_through (later_day d c.from) c.to) (later_day d c.from) r h in
    let high = days_through-within (later_day d c.from) c.to r found.within found.at_or_after in
    record {
      covered = covered_from_bounds c r (later_day-second d c.from r found.at_or_after) high;
      passes = found.passes;
      at_or_after = later_day-first d c.from r found.at_or_after;
      least = λ e covered passes after. elim (cases_Bool (int_le r e)) [
        | inl least ↦ omega (arith, ints)
        | inr before ↦ clash test e e refl passes (found.first e (later_day-least d c.from e after (covered_after_from c e covered)) (omega (arith, ints)))
      ];
    }

pub earliest_day-finds : (c : DaysView) (test : ℤ → Bool) (d r : ℤ) → IsEarliestDay c test d r → earliest_day c test d ≡ Some r
unfolding earliest_day
earliest_day-finds c test d r h =
    let low = later_day-least d c.from r h.at_or_after (covered_after_from c r h.covered) in
    let high = covered_before_to c r h.covered in
    first_passing-finds test (days_through (later_day d c.from) c.to) (later_day d c.from) r record {
      passes = h.passes;
      at_or_after = low;
      within = within-days_through (later_day d c.from) c.to r low high;
      first = λ e after before. false_from_ne_true (test e) (λ passes.
          let from_below = later_day-second d c.from e after in
          let covered = covered_from_bounds c e from_below (omega (arith, ints, before, high)) in
          omega (arith, ints, before, h.least e covered passes (later_day-first d c.from e after)));
    }

-- what the search backward finds is the greatest covered day that passes
pub latest_day-is : (c : DaysView) (test : ℤ → Bool) (d r : ℤ) → latest_day c test d ≡ Some r → IsLatestDay c test d r
unfolding latest_day
latest_day-is c test d r h =
    let found = last_passing-is test (days_through c.from (earlier_day d c.to)) (earlier_day d c.to) r h in
    let low = days_through-within_back c.from (earlier_day d c.to) r found.within found.at_or_before in
    record {
      covered = covered_from_bounds c r low (earlier_day-second d c.to r found.at_or_before);
      passes = found.passes;
      at_or_before = earlier_day-first d c.to r found.at_or_before;
      greatest = λ e covered passes before. elim (cases_Bool (int_le e r)) [
        | inl greatest ↦ omega (arith, ints)
        | inr after ↦ clash test e e refl passes (found.last e (earlier_day-greatest d c.to e before (covered_before_to c e covered)) (omega (arith, ints)))
      ];
    }

pub latest_day-finds : (c : DaysView) (test : ℤ → Bool) (d r : ℤ) → IsLatestDay c test d r → latest_day c test d ≡ Some r
unfolding latest_day
latest_day-finds c test d r h =
    let high = earlier_day-greatest d c.to r h.at_or_before (covered_before_to c r h.covered) in
    let low = covered_after_from c r h.covered in
    last_passing-finds test (days_through c.from (earlier_day d c.to)) (earlier_day d c.to) r record {
      passes = h.passes;
      at_or_before = high;
      within = within-days_through_back c.from (earlier_day d c.to) r low high;
      last = λ e before after. false_from_ne_true (test e) (λ passes.
          let to_above = earlier_day-second d c.to e before in
          let covered = covered_from_bounds c e (omega (arith, ints, after, low)) to_above in
          omega (arith, ints, after, h.greatest e covered passes (earlier_day-first d c.to e before)));
    }

-- a permitted day is covered
pub permitted_is_covered : (c : DaysView) (direction : Direction) (d : ℤ) → is_permitted c direction d ≡ true → is_covered c d ≡ true
unfolding is_permitted
permitted_is_covered c direction d h = elim (cases_Bool (is_covered c d)) [ inl is ↦ is | inr is_not ↦ (let clash : false ≡ true = rw is_not at h in absurd (cc)) ]

-- there is no rolled day where the day isn't covered
rolled-covered : (c : DaysView) (d r : ℤ) (direction : Direction) → rolled c d direction ≡ Some r → is_covered c d ≡ true
unfolding rolled
rolled-covered c d r After h = elim (cases_Bool (is_covered c d)) [ inl is ↦ is | inr is_not ↦ (let clash : None ≡ Some r = rw is_not at h in absurd (cc)) ]
rolled-covered c d r Before h = elim (cases_Bool (is_covered c d)) [ inl is ↦ is | inr is_not ↦ (let clash : None ≡ Some r = rw is_not at h in absurd (cc)) ]

rolled_is : (c : DaysView) (d r : ℤ) (direction : Direction) → rolled c d direction ≡ Some r → IsRolled c d direction r
unfolding rolled
rolled_is c d r After h =
    let covered = rolled-covered c d r After h in
    let found = earliest_day-is c (is_permitted c After) d r (rw covered at h) in
    record {
      covered = covered;
      permitted = found.passes;
      beyond = found.at_or_after;
      nearest = λ e permitted beyond. found.least e (permitted_is_covered c After e permitted) permitted beyond;
    }
rolled_is c d r Before h =
    let covered = rolled-covered c d r Before h in
    let found = latest_day-is c (is_permitted c Before) d r (rw covered at h) in
    record {
      covered = covered;
      permitted = found.passes;
      beyond = found.at_or_before;
      nearest = λ e permitted beyond. found.greatest e (permitted_is_covered c Before e permitted) permitted beyond;
    }

is_rolled : (c : DaysView) (d r : ℤ) (direction : Direction) → IsRolled c d direction r → rolled c d direction ≡ Some r
unfolding rolled
is_rolled c d r After h = rw h.covered (earliest_day-finds c (is_permitted c After) d r record {
  covered = permitted_is_covered c After r h.permitted;
  passes = h.permitted;
  at_or_after = h.beyond;
  least = λ e _ permitted after. h.nearest e permitted after;
})
is_rolled c d r Before h = rw h.covered (latest_day-finds c (is_permitted c Before) d r record {
  covered = permitted_is_covered c Before r h.permitted;
  passes = h.permitted;
  at_or_before = h.beyond;
  greatest = λ e _ permitted before. h.nearest e permitted before;
})

pub rolled_law : RolledIsNearest
rolled_law c d r direction = (rolled_is c d r direction, is_rolled c d r direction)

pub earliest_law : EarliestIsLeast
earliest_law c test d r = (earliest_day-is c test d r, earliest_day-finds c test d r)

pub latest_law : LatestIsGreatest
latest_law c test d r = (latest_day-is c test d r, latest_day-finds c test d r)
