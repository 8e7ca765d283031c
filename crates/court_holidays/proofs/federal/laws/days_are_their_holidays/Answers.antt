use Rattle.court_holidays.proofs.FederalLemmas.OnDayLemmas.{days_are_their_holidays}
use Rattle.court_holidays.proofs.federal.laws.days_are_their_holidays.Goals as goal

pub returns : goal.returns
returns c = days_are_their_holidays
