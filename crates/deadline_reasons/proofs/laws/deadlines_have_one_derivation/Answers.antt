use Rattle.deadline_reasons.proofs.OneDerivation.{one_derivation}
use Rattle.deadline_reasons.proofs.laws.deadlines_have_one_derivation.Goals as goal

pub returns : goal.returns
returns c = one_derivation
