use Rattle.rule6.proofs.AccessLemmas.{last_hour_law}
use Rattle.rule6.proofs.laws.last_hour_is_by_seconds.Goals as goal

pub returns : goal.returns
returns c = last_hour_law
