use Rattle.desk_journal.proofs.laws.stands_for_one_list.Goals as goal
use Rattle.desk_journal.proofs.OneList.{one_list}

pub returns : goal.returns
returns c = one_list
