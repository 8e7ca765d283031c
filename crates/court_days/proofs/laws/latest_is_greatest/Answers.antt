use Rattle.court_days.proofs.DaysLemmas.RolledLemmas.{latest_law}
use Rattle.court_days.proofs.laws.latest_is_greatest.Goals as goal

pub returns : goal.returns
returns c = latest_law
