use Rattle.case_numbers.specs.Inside.Cases.{AreOpened}
use Rattle.case_numbers.proofs.cases.free_from.Given as goal

-- all below the number were opened
abbrev pub invariant-loop-number : goal.invariant-loop-number
invariant-loop-number l = AreOpened l.opened.keys l.number-counter
