use Rattle.court_days.proofs.CourtLemmas.OpeningLemmas.{files_name_no_outages}
use Rattle.court_days.proofs.laws.files_name_no_outages.Goals as goal

pub returns : goal.returns
returns c = files_name_no_outages
