use Rattle.desk_journal.proofs.laws.has_one_list_of_stamps.Goals as goal
use Rattle.desk_journal.proofs.OneList.{one_list_of_stamps}

pub returns : goal.returns
returns c = one_list_of_stamps
