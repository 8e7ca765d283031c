use Rattle.std.proofs.Common.{◌∙◌, ap, arith}
use Rattle.std.proofs.lemmas.Int.{ints}
use Rattle.court_clock.proofs.ClockLemmas.CivilLemmas.{takes_earlier, takes_later}
use Rattle.court_clock.proofs.clock.Clock.instant_of.Goals as goal

pub returns-then-shown_at-civil : goal.returns-then-shown_at-civil
returns-then-shown_at-civil c =
    takes_earlier c.args.self.now.zone c.args.day c.args.second c.second_of-civil.result c.instant_by-earlier.result c.second_of-civil.ensures.value (omega (arith, ints, c.instant_by-earlier.ensures, c.offsets-smaller.ensures.larger)) (omega (arith, ints, c.shown_at.ensures.value))

pub returns : goal.returns
returns c =
    takes_later c.args.self.now.zone c.args.day c.args.second c.second_of-civil.result c.instant_by-earlier.result c.instant_by.result c.second_of-civil.ensures.value (omega (arith, ints, c.instant_by-earlier.ensures, c.offsets-smaller.ensures.larger)) (λ e. c.if-shown_at-civil.false (ap (mir.Val.of_z mir.Syntax.w64) (c.shown_at.ensures.value ∙ e))) (omega (arith, ints, c.instant_by.ensures, c.offsets-smaller.ensures.smaller))
