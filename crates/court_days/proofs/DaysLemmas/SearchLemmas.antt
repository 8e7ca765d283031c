-- How the search for the least or the greatest covered day goes on from one day to the next.
use Rattle.std.proofs.Common.{◌≡◌, ◌<◌, ℤ, pos, ◌+ℤ◌, ◌-ℤ◌, ◌≤ℤ◌, ◌<ℤ◌, Bool, true, false, Some, None, refl, sym, ◌∙◌, arith}
use Rattle.std.proofs.lemmas.Int.{ints}
use Rattle.court_clock.specs.Words.{first_passing, last_passing, days_through, later_day}
use Rattle.court_clock.proofs.CallerLemmas.{later_day-same, earlier_day-same, days_through-first, days_through-last, days_through-none, first_passing-fails, first_passing-passes, last_passing-fails, last_passing-passes}
use Rattle.court_days.specs.Days.{DaysView, is_covered}
use Rattle.court_days.specs.Days.Search.{earliest_day, latest_day}

-- a covered day is in the span
pub covered_after_from : (c : DaysView) (d : ℤ) → is_covered c d ≡ true → c.from ≤ℤ d
covered_after_from c d h = grind (arith, ints)

pub covered_before_to : (c : DaysView) (d : ℤ) → is_covered c d ≡ true → d ≤ℤ c.to
covered_before_to c d h = grind (arith, ints)

-- the search of the covered days from d on, where d is not before the span
earliest_day-within : (c : DaysView) (test : ℤ → Bool) (d : ℤ) → c.from ≤ℤ d → earliest_day c test d ≡ first_passing test (days_through d c.to) d
unfolding earliest_day
earliest_day-within c test d within = rw (later_day-same d c.from within) refl

latest_day-within : (c : DaysView) (test : ℤ → Bool) (d : ℤ) → d ≤ℤ c.to → latest_day c test d ≡ last_passing test (days_through c.from d) d
unfolding latest_day
latest_day-within c test d within = rw (earlier_day-same d c.to within) refl

-- a covered day that fails the test is passed over
pub earliest_skips : (c : DaysView) (test : ℤ → Bool) (d e : ℤ) → is_covered c d ≡ true → test d ≡ false → e ≡ d +ℤ pos 1 → earliest_day c test e ≡ earliest_day c test d
earliest_skips c test d e covered fails next =
    let low : c.from ≤ℤ d = covered_after_from c d covered in
    let low' : c.from ≤ℤ (d +ℤ pos 1) = omega (arith, ints) in
    rw (next, earliest_day-within c test d low, earliest_day-within c test (d +ℤ pos 1) low', days_through-first d c.to (covered_before_to c d covered), first_passing-fails test (days_through (d +ℤ pos 1) c.to) d fails) refl

-- a covered day that passes the test is the answer
pub earliest_finds : (c : DaysView) (test : ℤ → Bool) (d : ℤ) → is_covered c d ≡ true → test d ≡ true → earliest_day c test d ≡ Some d
earliest_finds c test d covered passes =
    rw (earliest_day-within c test d (covered_after_from c d covered), days_through-first d c.to (covered_before_to c d covered)) (first_passing-passes test (days_through (d +ℤ pos 1) c.to) d passes)

-- after the span nothing is found
pub earliest_ends : (c : DaysView) (test : ℤ → Bool) (d : ℤ) → c.from ≤ℤ d → c.to <ℤ d → earliest_day c test d ≡ None
unfolding first_passing
earliest_ends c test d low past = rw (earliest_day-within c test d low, days_through-none d c.to past) refl

pub latest_skips : (c : DaysView) (test : ℤ → Bool) (d e : ℤ) → is_covered c d ≡ true → test d ≡ false → e ≡ d -ℤ pos 1 → latest_day c test e ≡ latest_day c test d
latest_skips c test d e covered fails next =
    let high : d ≤ℤ c.to = covered_before_to c d covered in
    let high' : (d -ℤ pos 1) ≤ℤ c.to = omega (arith, ints) in
    rw (next, latest_day-within c test d high, latest_day-within c test (d -ℤ pos 1) high', days_through-last c.from d (covered_after_from c d covered), last_passing-fails test (days_through c.from (d -ℤ pos 1)) d fails) refl

pub latest_finds : (c : DaysView) (test : ℤ → Bool) (d : ℤ) → is_covered c d ≡ true → test d ≡ true → latest_day c test d ≡ Some d
latest_finds c test d covered passes =
    rw (latest_day-within c test d (covered_before_to c d covered), days_through-last c.from d (covered_after_from c d covered)) (last_passing-passes test (days_through c.from (d -ℤ pos 1)) d passes)

pub latest_ends : (c : DaysView) (test : ℤ → Bool) (d : ℤ) → d ≤ℤ c.to → d <ℤ c.from → latest_day c test d ≡ None
unfolding last_passing
latest_ends c test d high past = rw (latest_day-within c test d high, days_through-none c.from d past) refl

-- where the last covered day fails the test, nothing is found from it on
pub earliest_stops : (c : DaysView) (test : ℤ → Bool) (d : ℤ) → is_covered c d ≡ true → test d ≡ false → c.to ≤ℤ d → earliest_day c test d ≡ None
earliest_stops c test d covered fails last =
    let low : c.from ≤ℤ d = covered_after_from c d covered in
    sym (earliest_skips c test d (d +ℤ pos 1) covered fails refl) ∙ earliest_ends c test (d +ℤ pos 1) (omega (arith, ints)) (omega (arith, ints))

pub latest_stops : (c : DaysView) (test : ℤ → Bool) (d : ℤ) → is_covered c d ≡ true → test d ≡ false → d ≤ℤ c.from → latest_day c test d ≡ None
latest_stops c test d covered fails first =
    let high : d ≤ℤ c.to = covered_before_to c d covered in
    sym (latest_skips c test d (d -ℤ pos 1) covered fails refl) ∙ latest_ends c test (d -ℤ pos 1) (omega (arith, ints)) (omega (arith, ints))

-- a day of the span is covered
pub covered_from_bounds : (c : DaysView) (d : ℤ) → c.from ≤ℤ d → d ≤ℤ c.to → is_covered c d ≡ true
covered_from_bounds c d low high = grind (arith, ints)

-- before the span the search begins with its first day
pub earliest_starts : (c : DaysView) (test : ℤ → Bool) (d : ℤ) → d ≤ℤ c.from → earliest_day c test d ≡ earliest_day c test c.from
unfolding earliest_day
earliest_starts c test d before =
    let first : later_day d c.from ≡ c.from = grind (arith, ints) in
    let same : later_day c.from c.from ≡ c.from = grind (arith, ints) in
    rw (first, same) refl
