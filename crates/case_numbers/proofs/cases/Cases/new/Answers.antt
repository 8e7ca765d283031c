use Rattle.case_numbers.proofs.FreeLemmas.{none_opened}
use Rattle.case_numbers.proofs.cases.Cases.new.Goals as goal

pub invariant_of-result : goal.invariant_of-result
invariant_of-result c = none_opened _
