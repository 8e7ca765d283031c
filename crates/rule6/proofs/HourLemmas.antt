-- What the clock shows, in days and seconds. At a number that is no instant it shows no civil time.
use Rattle.std.proofs.Common.{◌≡◌, ◌<◌, ℤ, pos, negsuc, neg_ℤ, ◌≤ℤ◌, ◌*ℤ◌, true, false, None, unsigned_abs, refl, arith}
use Rattle.std.proofs.lemmas.Int.{ints}
use Rattle.std.proofs.lemmas.Bool.{false_from_ne_true}
use Rattle.std.specs.Int.{int_rem_euclid}
use Rattle.court_clock.specs.Words.{ClockView, IsInstantSecond, shown_second, second_of, is_day_number, civil_time, civil_of}
use Rattle.court_clock.proofs.CallerLemmas.{offset_in_range, shown_from_civil}

rest_below : (z : ℤ) → unsigned_abs (int_rem_euclid z (pos 86_400)) < 86_400
rest_below (pos n) = omega arith
rest_below (negsuc n) = omega arith

-- the second of a civil time is one of its day
pub second_below : (clock : ClockView) (t : ℤ) → (civil_time clock.zone t).second < 86_400
unfolding civil_time
second_below clock t = rest_below (shown_second clock.zone t)

-- what the clock shows is its civil time in seconds
pub shown_is : (clock : ClockView) (t : ℤ) → shown_second clock.zone t ≡ second_of (civil_time clock.zone t).day (civil_time clock.zone t).second
shown_is clock t = shown_from_civil clock.zone (civil_time clock.zone t).day (civil_time clock.zone t).second t refl

-- only an instant shows a day that is a `Day`
pub is_instant : (clock : ClockView) (t : ℤ) → neg_ℤ (pos 110_000) ≤ℤ (civil_time clock.zone t).day → (civil_time clock.zone t).day ≤ℤ pos 110_000 → IsInstantSecond t
is_instant clock t low high =
    let offset = offset_in_range clock.zone (t *ℤ pos 1_000_000_000) in
    record {
      low = omega (arith, ints, shown_is clock t, second_below clock t, offset.0, offset.1, low);
      high = omega (arith, ints, shown_is clock t, second_below clock t, offset.0, offset.1, high);
    }

day_bounds : (d : ℤ) → is_day_number d ≡ true → (neg_ℤ (pos 110_000) ≤ℤ d) × (d ≤ℤ pos 110_000)
day_bounds d h = (grind (arith, ints), grind (arith, ints))

pub no_civil_time : (clock : ClockView) (t : ℤ) → ¬ IsInstantSecond t → civil_of clock.zone t ≡ None
unfolding civil_of
no_civil_time clock t beyond =
    let no_day : is_day_number (civil_time clock.zone t).day ≡ false = false_from_ne_true (is_day_number (civil_time clock.zone t).day) (λ day. beyond (is_instant clock t (day_bounds _ day).0 (day_bounds _ day).1)) in
    rw no_day refl
