use Rattle.court_clock.proofs.ClockLemmas.ZoneLemmas.{texts_name_clocks}
use Rattle.court_clock.proofs.laws.texts_name_clocks.Goals as goal

pub returns : goal.returns
returns c = texts_name_clocks
