-- Two values that stand for one clock show the same at each instant, and a civil time at the same instant.
use Rattle.std.proofs.Common.{◌≡◌, ◌+ℤ◌, ◌-ℤ◌, ℕ, ℤ, pos, Some, None, unsigned_abs, cond, refl, ap}
use Rattle.std.specs.Int.{int_div_euclid, int_rem_euclid}
use Rattle.jiff_tz.specs.declared.timezone.TimeZone.{TimeZone}
use Rattle.court_clock.specs.Clock.{CivilTime, civil_of, civil_time, instant_of, is_day_number, larger_offset, second_of, shown_second}
use Rattle.court_clock.specs.Clock.Zone.{IsSameClock}

shown_second_alike : (a b : TimeZone) → IsSameClock a b → (t : ℤ) → shown_second a t ≡ shown_second b t
shown_second_alike a b same t = ap (λ o. t +ℤ o) (same.offsets t)

abbrev civil_at : ℤ → CivilTime
civil_at s = record { day = int_div_euclid s (pos 86_400); second = unsigned_abs (int_rem_euclid s (pos 86_400)) }

pub civil_time_alike : (a b : TimeZone) → IsSameClock a b → (t : ℤ) → civil_time a t ≡ civil_time b t
unfolding civil_time
civil_time_alike a b same t = ap civil_at (shown_second_alike a b same t)

pub civil_of_alike : (a b : TimeZone) → IsSameClock a b → (t : ℤ) → civil_of a t ≡ civil_of b t
unfolding civil_of
civil_of_alike a b same t = ap (λ (c : CivilTime). cond (is_day_number c.day) (Some c) None) (civil_time_alike a b same t)

pub instant_alike : (a b : TimeZone) → IsSameClock a b → (day : ℤ) (second : ℕ) → instant_of a day second ≡ instant_of b day second
unfolding instant_of
instant_alike a b same day second =
    rw (same.standard, same.daylight, shown_second_alike a b same (second_of day second -ℤ larger_offset b)) refl
