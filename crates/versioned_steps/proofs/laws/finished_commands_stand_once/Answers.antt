use Rattle.versioned_steps.proofs.FinishedLemmas.{finished_once}
use Rattle.versioned_steps.proofs.laws.finished_commands_stand_once.Goals as goal

pub returns : goal.returns
returns g c = λ parts. finished_once (g.P.Parted.rules parts)
