-- The days beside a weekend are days: neither the first day that there is nor the last is in their place.
use Rattle.std.proofs.Common.{◌≡◌, ℤ, pos, ◌+ℤ◌, ◌-ℤ◌, arith}
use Rattle.jiff_core.proofs.SignedLemmas.{signed_arith}
use Rattle.court_clock.specs.Words.{IsDayNumber, weekday_of}

pub friday_is_day : (d : ℤ) → IsDayNumber d → weekday_of d ≡ 5 → IsDayNumber (d -ℤ pos 1)
friday_is_day d number saturday = record { low = omega (arith, signed_arith, number.low, number.high, saturday); high = omega (arith, signed_arith, number.low, number.high, saturday) }

pub monday_is_day : (d : ℤ) → IsDayNumber d → weekday_of d ≡ 6 → IsDayNumber (d +ℤ pos 1)
monday_is_day d number sunday = record { low = omega (arith, signed_arith, number.low, number.high, sunday); high = omega (arith, signed_arith, number.low, number.high, sunday) }

pub saturday_is_day : (d : ℤ) → IsDayNumber d → weekday_of d ≡ 4 → IsDayNumber (d +ℤ pos 1)
saturday_is_day d number friday = record { low = omega (arith, signed_arith, number.low, number.high, friday); high = omega (arith, signed_arith, number.low, number.high, friday) }

pub sunday_is_day : (d : ℤ) → IsDayNumber d → weekday_of d ≡ 0 → IsDayNumber (d -ℤ pos 1)
sunday_is_day d number monday = record { low = omega (arith, signed_arith, number.low, number.high, monday); high = omega (arith, signed_arith, number.low, number.high, monday) }
