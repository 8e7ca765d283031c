use Rattle.std.proofs.Common.{◌≡◌, ◌<ℤ◌, inl, inr, arith, ap, int_le}
use Rattle.std.proofs.lemmas.Int.{ints, clamps}
use Rattle.std.proofs.lemmas.Bool.{cases_Bool}
use Rattle.jiff.specs.Words.{plain_zone}
use Rattle.court_clock.specs.Clock.{offset_seconds}
use Rattle.court_clock.proofs.ClockLemmas.SteadyLemmas.{steady}
use Rattle.court_clock.proofs.clock.stretch.steady_until.Goals as goal

pub returns-in-Some-clause-steady : goal.returns-in-Some-clause-steady
returns-in-Some-clause-steady c t low high = elim (cases_Bool (int_le t c.args.instant)) [
  | inl now ↦
      let same : t ≡ c.args.instant = omega (arith, ints, now) in
      ap (offset_seconds (plain_zone c.args.zone)) same
  | inr after ↦
      let before_change : t <ℤ c.in-Some.change = omega (arith, ints, clamps, high, c.clamp.ensures.value, c.seconds-now.ensures.value, after) in
      let before_end : t <ℤ c.end_of_utc_year-end.result = omega (arith, ints, high, c.clamp.ensures.upper_bound) in
      steady (plain_zone c.args.zone) c.args.instant t c.requires (rw c.seconds-now.ensures.value at c.seconds-now.ensures.in_range) low (omega (arith, ints, before_end, c.end_of_utc_year-end.ensures.bound.1)) (c.end_of_utc_year-end.ensures.same_year t low before_end) (c.in-Some.ensures.some t before_change)
]

pub returns-in-None-clause-steady : goal.returns-in-None-clause-steady
returns-in-None-clause-steady c t low high =
    steady (plain_zone c.args.zone) c.args.instant t c.requires (rw c.seconds-now.ensures.value at c.seconds-now.ensures.in_range) low (omega (arith, ints, high, c.end_of_utc_year-end.ensures.bound.1)) (c.end_of_utc_year-end.ensures.same_year t low (omega (arith, ints, high))) (rw c.in-None.ensures.none.0 tt)
