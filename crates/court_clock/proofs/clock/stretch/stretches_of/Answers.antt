use Rattle.std.proofs.Common.{w64, of_z, to_z, arith}
use Rattle.std.proofs.lemmas.Int.{ints}
use Rattle.std.proofs.lemmas.List.Elements.{All-push}
use Rattle.jiff.specs.Words.{plain_zone}
use Rattle.court_clock.specs.Clock.Stretch.{IsSteady}
use Rattle.court_clock.proofs.DayLemmas.SpanLemmas.{days_through-smaller}
use Rattle.court_clock.proofs.clock.stretch.stretches_of.Goals as goal

pub stretches-smaller : goal.stretches-smaller
stretches-smaller c =
    days_through-smaller (to_z w64 c.stretches.from-bits) (to_z w64 (of_z w64 c.stretch_from-stretch.result.until)) (to_z w64 (of_z w64 c.seconds-stop.result)) (omega (arith, ints, c.stretches-test.true, c.stretches.from-is)) (omega (arith, ints, c.stretch_from-stretch.ensures.later, c.instant.ensures, c.stretches.from-is))

pub stretches-preserved : goal.stretches-preserved
stretches-preserved c = record {
  steady = rw c.in_ok-push.ensures.items (All-push (λ s. IsSteady (plain_zone c.args.zone) s.from s.until s.offset) c.stretches.stretches.items c.stretch_from-stretch.result c.stretches.invariant.steady c.stretch_from-stretch.ensures.steady);
  low = omega (arith, ints, c.stretch_from-stretch.ensures.later, c.instant.ensures, c.stretches.from-is, c.stretches.invariant.low);
  high = c.stretches.invariant.high;
}
