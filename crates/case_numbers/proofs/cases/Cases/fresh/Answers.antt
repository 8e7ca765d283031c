use Rattle.std.proofs.Common.{◌∙◌, sym}
use Rattle.case_numbers.proofs.FreeLemmas.{free_end, free_from_first, free_here, free_next}
use Rattle.case_numbers.proofs.cases.Cases.fresh.Goals as goal

pub loop-number-init : goal.loop-number-init
loop-number-init c = rw (← c.self.view_is) (sym (free_from_first c.self.inside.opened.keys c.self.inside.first c.self.invariant))

pub returns-then-not-contains : goal.returns-then-not-contains
returns-then-not-contains c = sym (free_here c.args.self.now.opened c.loop-number.number-counter c.loop-number-test.true (rw (← c.self.view_is) (sym c.contains.ensures ∙ c.if-not-contains.true))) ∙ c.loop-number.invariant

pub loop-number-preserved : goal.loop-number-preserved
loop-number-preserved c = sym (free_next c.args.self.now.opened c.loop-number.number-counter c.loop-number-test.true (rw (← c.self.view_is) (sym c.contains.ensures ∙ c.if-not-contains.false))) ∙ c.loop-number.invariant

pub returns : goal.returns
returns c = sym (free_end c.args.self.now.opened c.loop-number.number-counter c.loop-number-test.false) ∙ c.loop-number.invariant
