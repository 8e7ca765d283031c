use Rattle.std.proofs.Common.{◌⊎◌, inl, inr, ℤ, ◌*◌, ◌+ℤ◌, ◌≤ℤ◌, ◌<ℤ◌, int_le, arith}
use Rattle.std.proofs.lemmas.Int.{ints, clamps}
use Rattle.std.proofs.lemmas.Bool.{cases_Bool}
use Rattle.court_clock.specs.Words.{second_of}
use Rattle.rule6.proofs.AccessLemmas.{outside_beyond, stretch_meets, stretch_misses, hour_misses}
use Rattle.rule6.proofs.access.meets_last_hour.Goals as goal

pub stretches-init : goal.stretches-init
stretches-init c =
    let value = c.max-from.ensures.value in
    let stop = c.seconds-stop.ensures in
    record {
      in_last_hour = omega (arith, ints, clamps, value, stop.value, stop.in_range.low, stop.in_range.high);
      is_instant = omega (arith, ints, clamps, value, stop.value, stop.in_range.low, stop.in_range.high);
      before_end = omega (arith, ints, clamps, value, stop.value, stop.in_range.low, stop.in_range.high);
      none = λ t low high. outside_beyond c.args.clock.now c.args.outage t c.shut_seconds-begins.ensures.day.low c.shut_seconds-begins.ensures.day.high (omega (arith, ints, clamps, value, stop.value, stop.in_range.low, stop.in_range.high, low, high));
    }

pub returns-then-overlap : goal.returns-then-overlap
returns-then-overlap c =
    let both = c.overlap.ensures.some c.if-overlap.true in
    let shut = c.shut_seconds-begins.ensures in
    let stretch = c.stretch-until.ensures in
    stretch_meets c.args.clock.now c.args.end c.args.outage c.stretches.from c.stretch-until.result.0 c.stretch-until.result.1 shut.ordered shut.within_the_day (omega (arith, ints, c.stretches.from-is, c.stretches.invariant.in_last_hour)) (omega (arith, ints, c.stretches.from-is, stretch.some)) (omega (arith, ints, c.seconds-stop.ensures.value, stretch.within)) (λ t low high. stretch.steady t (rw c.stretches.from-is low) high) (omega (arith, ints, both.0, shut.begins, c.seconds-stop.ensures.in_range.high, c.stretches.invariant.is_instant, stretch.some, stretch.within, stretch.offset_low, stretch.offset_high)) (omega (arith, ints, both.1, shut.ends, c.stretches.from-is, c.seconds-stop.ensures.in_range.high, c.stretches.invariant.is_instant, stretch.some, stretch.within, stretch.offset_low, stretch.offset_high))

pub stretches-preserved : goal.stretches-preserved
stretches-preserved c =
    let apart = c.overlap.ensures.none c.if-overlap.false in
    let shut = c.shut_seconds-begins.ensures in
    let stretch = c.stretch-until.ensures in
    let until : ℤ = c.stretch-until.result.0 in
    let offset : ℤ = c.stretch-until.result.1 in
    let past : ((until +ℤ offset) ≤ℤ second_of c.args.outage.day (60 * c.args.outage.from)) ⊎ (second_of c.args.outage.day (60 * c.args.outage.to) ≤ℤ (c.stretches.from +ℤ offset)) = elim apart [
      | inl before ↦ inl (omega (arith, ints, before, shut.begins, c.seconds-stop.ensures.in_range.high, c.stretches.invariant.is_instant, stretch.some, stretch.within, stretch.offset_low, stretch.offset_high))
      | inr after ↦ inr (omega (arith, ints, after, shut.ends, c.stretches.from-is, c.seconds-stop.ensures.in_range.high, c.stretches.invariant.is_instant, stretch.some, stretch.within, stretch.offset_low, stretch.offset_high))
    ] in
    record {
      in_last_hour = omega (arith, ints, c.stretches.invariant.in_last_hour, stretch.some);
      is_instant = omega (arith, ints, c.stretches.invariant.is_instant, stretch.some);
      before_end = omega (arith, ints, c.seconds-stop.ensures.value, stretch.within);
      none = λ t low high. elim (cases_Bool (int_le c.stretches.from t)) [
        | inl here ↦
            let first : c.stretches.from ≤ℤ t = omega (arith, ints, here) in
            let last : t <ℤ until = omega (arith, ints, high) in
            stretch_misses c.args.clock.now c.args.outage c.stretches.from until offset t (stretch.steady t (rw c.stretches.from-is first) last) first last past
        | inr before ↦ c.stretches.invariant.none t low (omega (arith, ints, before, c.stretches.from-is))
      ];
    }

pub returns : goal.returns
returns c = hour_misses c.args.clock.now c.args.end c.args.outage (λ t low high. c.stretches.invariant.none t low (omega (arith, ints, high, c.stretches-test.false, c.seconds-stop.ensures.value)))
