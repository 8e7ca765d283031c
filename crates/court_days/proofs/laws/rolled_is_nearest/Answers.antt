use Rattle.court_days.proofs.DaysLemmas.RolledLemmas.{rolled_law}
use Rattle.court_days.proofs.laws.rolled_is_nearest.Goals as goal

pub returns : goal.returns
returns c = rolled_law
