-- Where a search of the covered days stops.
use Rattle.std.proofs.Common.{◌≡◌, ℤ, pos, ◌+ℤ◌, ◌≤ℤ◌, Bool, true, false, None, refl, sym, ◌∙◌, arith}
use Rattle.std.proofs.lemmas.Int.{ints}
use Rattle.court_days.specs.Words.{DaysView, earliest_day, is_covered}
use Rattle.court_days.proofs.CallerLemmas.{earliest_ends, earliest_skips}

-- a covered day is in the span
covered_from : (c : DaysView) (d : ℤ) → is_covered c d ≡ true → c.from ≤ℤ d
covered_from c d covered = grind (arith, ints)

-- where the last covered day fails the test, nothing is found from it on
pub earliest_stops : (c : DaysView) (test : ℤ → Bool) (d : ℤ) → is_covered c d ≡ true → test d ≡ false → c.to ≤ℤ d → earliest_day c test d ≡ None
earliest_stops c test d covered fails last =
    let low : c.from ≤ℤ d = covered_from c d covered in
    sym (earliest_skips c test d (d +ℤ pos 1) covered fails refl) ∙ earliest_ends c test (d +ℤ pos 1) (omega (arith, ints)) (omega (arith, ints))
