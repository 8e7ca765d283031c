use Rattle.court_holidays.proofs.FederalLemmas.PlaceLemmas.{labor_day_is_a_monday}
use Rattle.court_holidays.proofs.federal.laws.labor_day_is_a_monday.Goals as goal

pub returns : goal.returns
returns c = labor_day_is_a_monday
