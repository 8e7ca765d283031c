-- Looking back from a day that isn't covered.
use Rattle.std.proofs.Common.{◌≡◌, ℤ, ◌≤ℤ◌, ◌<ℤ◌, Bool, None, refl, arith}
use Rattle.std.proofs.lemmas.Int.{ints}
use Rattle.court_clock.specs.Words.{earlier_day}
use Rattle.court_days.specs.Words.{DaysView, latest_day}
use Rattle.court_days.proofs.CallerLemmas.{latest_ends}

-- the search from a day is that from the last covered day at or before it
pub latest_starts : (c : DaysView) (test : ℤ → Bool) (d : ℤ) → latest_day c test (earlier_day d c.to) ≡ latest_day c test d
unfolding latest_day
latest_starts c test d =
    let same : earlier_day (earlier_day d c.to) c.to ≡ earlier_day d c.to = grind (arith, ints) in
    rw same refl

-- before the span nothing is found
pub latest_before_span : (c : DaysView) (test : ℤ → Bool) (d : ℤ) → c.from ≤ℤ c.to → d <ℤ c.from → latest_day c test d ≡ None
latest_before_span c test d span before = latest_ends c test d (omega (arith, ints)) before
