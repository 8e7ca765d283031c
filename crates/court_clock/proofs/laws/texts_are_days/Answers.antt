use Rattle.court_clock.proofs.DayLemmas.TextLemmas.{texts_are_days}
use Rattle.court_clock.proofs.laws.texts_are_days.Goals as goal

pub returns : goal.returns
returns c = texts_are_days
