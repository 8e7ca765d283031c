use Rattle.court_clock.proofs.ClockLemmas.CivilLemmas.{instant_law}
use Rattle.court_clock.proofs.laws.instants_are_earliest.Goals as goal

pub returns : goal.returns
returns c = instant_law
