use Rattle.court_clock.proofs.DayLemmas.MonthLemmas.{months_pass}
use Rattle.court_clock.proofs.laws.months_pass.Goals as goal

pub returns : goal.returns
returns c = months_pass
