use Rattle.deadline_reasons.proofs.DerivationLemmas.{derivation_law}
use Rattle.deadline_reasons.proofs.laws.derivations_end_in_what_is_shown.Goals as goal

pub returns : goal.returns
returns c = derivation_law
