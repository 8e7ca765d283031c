use Rattle.versioned_steps.proofs.TouchLemmas.{version_is_last_touch}
use Rattle.versioned_steps.proofs.laws.versions_are_last_touches.Goals as goal

pub returns : goal.returns
returns g c = λ parts. version_is_last_touch (g.P.Parted.rules parts)
