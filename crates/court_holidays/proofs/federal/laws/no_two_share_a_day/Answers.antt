use Rattle.court_holidays.proofs.FederalLemmas.PlaceLemmas.{no_two_share_a_day}
use Rattle.court_holidays.proofs.federal.laws.no_two_share_a_day.Goals as goal

pub returns : goal.returns
returns c = no_two_share_a_day
