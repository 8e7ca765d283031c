use Rattle.court_days.proofs.CourtLemmas.DeskLemmas.{desk_reads_alike}
use Rattle.court_days.proofs.laws.desk_reads_alike.Goals as goal

pub returns : goal.returns
returns c = desk_reads_alike
