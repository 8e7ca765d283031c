use Rattle.court_days.proofs.DaysLemmas.RolledLemmas.{earliest_law}
use Rattle.court_days.proofs.laws.earliest_is_least.Goals as goal

pub returns : goal.returns
returns c = earliest_law
