use Rattle.court_holidays.proofs.FederalLemmas.InPlaceLemmas.{observed_are_in_place}
use Rattle.court_holidays.proofs.federal.laws.observed_are_in_place.Goals as goal

pub returns : goal.returns
returns c = observed_are_in_place
