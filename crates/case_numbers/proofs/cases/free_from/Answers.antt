use Rattle.std.proofs.Common.{◌∙◌, arith, subst, sym}
use Rattle.case_numbers.specs.Inside.Cases.{AreOpened}
use Rattle.case_numbers.proofs.FreeLemmas.{opened_more}
use Rattle.case_numbers.proofs.cases.free_from.Goals as goal

pub loop-number-preserved : goal.loop-number-preserved
loop-number-preserved c = opened_more c.args.opened.now.keys c.loop-number.number-counter c.loop-number.invariant c.loop-number-test.true (sym c.contains.ensures ∙ c.if-not-contains.false)

pub returns : goal.returns
returns c = subst (AreOpened c.args.opened.now.keys) (omega (arith, c.loop-number-test.false, c.loop-number.invariant.within)) c.loop-number.invariant
