use Rattle.court_holidays.proofs.FederalLemmas.PlaceLemmas.{holidays_lie_in_their_year}
use Rattle.court_holidays.proofs.federal.laws.holidays_lie_in_their_year.Goals as goal

pub returns : goal.returns
returns c = holidays_lie_in_their_year
