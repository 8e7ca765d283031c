-- Easter is a Sunday.
use Rattle.std.proofs.Common.{◌≡◌, ℤ, pos, ◌+ℤ◌, ◌-ℤ◌, ◌≤ℤ◌, ◌<ℤ◌, arith}
use Rattle.jiff_core.specs.Calendar.{weekday_number}
use Rattle.jiff_core.proofs.SignedLemmas.{signed_arith}
use Rattle.jiff_core.proofs.CalendarLemmas.{weekday_number_bound, weekday_number-parts}
use Rattle.court_clock.specs.Words.{weekday_of}
use Rattle.court_holidays.specs.States.Easter.{easter, full_moon, good_friday, sunday_after, EasterIsASunday}

sunday : (d : ℤ) → (weekday_of (sunday_after d) ≡ 6) × (d <ℤ sunday_after d) × (sunday_after d ≤ℤ (d +ℤ pos 7)) × (weekday_of (sunday_after d -ℤ pos 2) ≡ 4)
unfolding weekday_number
sunday d =
    let here = weekday_number-parts d in
    let bound = weekday_number_bound d in
    let there = weekday_number-parts (sunday_after d) in
    let before = weekday_number-parts (sunday_after d -ℤ pos 2) in
    (omega (arith, signed_arith, here, bound, there), omega (arith, signed_arith, here, bound), omega (arith, signed_arith, here, bound), omega (arith, signed_arith, here, bound, before))

pub easter_is_a_sunday : EasterIsASunday
unfolding easter good_friday
easter_is_a_sunday year = sunday (full_moon year)
