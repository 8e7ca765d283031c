use Rattle.court_days.proofs.CourtLemmas.DeskLemmas.{desk_takes_names}
use Rattle.court_days.proofs.laws.desk_takes_names.Goals as goal

pub returns : goal.returns
returns c = desk_takes_names
