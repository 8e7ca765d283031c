use Rattle.desk_journal.proofs.laws.times_never_go_back.Goals as goal
use Rattle.desk_journal.proofs.StampLemmas.{times_never_go_back}

pub returns : goal.returns
returns c = times_never_go_back
