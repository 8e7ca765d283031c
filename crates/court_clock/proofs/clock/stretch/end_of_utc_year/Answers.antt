use Rattle.std.proofs.Common.{◌≡◌, ◌≤ℤ◌, ◌<ℤ◌, pos, ◌+ℤ◌, ◌*ℤ◌, arith}
use Rattle.std.specs.Int.{int_div_euclid}
use Rattle.std.proofs.Common.{w32, w64, of_z, to_z}
use Rattle.std.proofs.lemmas.Int.{ints}
use Rattle.court_clock.specs.Clock.Stretch.{IsLastOfYear}
use Rattle.jiff_core.proofs.SignedLemmas.{signed_arith, int_div_euclid-parts}
use Rattle.court_clock.proofs.clock.stretch.end_of_utc_year.Goals as goal

pub returns-clause-later : goal.returns-clause-later
returns-clause-later c =
    let end = c.last_of_year.ensures in
    omega (arith, signed_arith, int_div_euclid-parts c.args.instant 86_400 (omega arith), c.second_after.ensures, end.later, c.utc_day-day.ensures.value)

pub returns-clause-same_year : goal.returns-clause-same_year
returns-clause-same_year c t low high =
    let day : to_z w32 (of_z w32 c.utc_day-day.result) ≡ int_div_euclid c.args.instant (pos 86_400) = omega (arith, ints, c.utc_day-day.ensures.value, c.utc_day-day.ensures.bound.0, c.utc_day-day.ensures.bound.1) in
    let end : IsLastOfYear (int_div_euclid c.args.instant (pos 86_400)) c.last_of_year.result = rw day at c.last_of_year.ensures in
    let before : int_div_euclid c.args.instant (pos 86_400) ≤ℤ int_div_euclid t (pos 86_400) = omega (arith, signed_arith, int_div_euclid-parts c.args.instant 86_400 (omega arith), int_div_euclid-parts t 86_400 (omega arith), low) in
    let stop : to_z w64 (of_z w64 c.second_after.result) ≡ (c.last_of_year.result +ℤ pos 1) *ℤ pos 86_400 = omega (arith, ints, c.second_after.ensures, c.last_of_year.ensures.later, c.last_of_year.ensures.near, c.utc_day-day.ensures.bound.0, c.utc_day-day.ensures.bound.1) in
    let high' : t <ℤ ((c.last_of_year.result +ℤ pos 1) *ℤ pos 86_400) = rw stop at high in
    let within : int_div_euclid t (pos 86_400) ≤ℤ c.last_of_year.result = omega (arith, signed_arith, int_div_euclid-parts t 86_400 (omega arith), high') in
    end.same_year (int_div_euclid t (pos 86_400)) before within

pub returns-clause-bound : goal.returns-clause-bound
returns-clause-bound c = (
  omega (arith, ints, c.second_after.ensures, c.last_of_year.ensures.later, c.last_of_year.ensures.near, c.utc_day-day.ensures.bound.0, c.utc_day-day.ensures.bound.1),
  omega (arith, ints, c.second_after.ensures, c.last_of_year.ensures.later, c.last_of_year.ensures.near, c.utc_day-day.ensures.bound.0, c.utc_day-day.ensures.bound.1),
)
