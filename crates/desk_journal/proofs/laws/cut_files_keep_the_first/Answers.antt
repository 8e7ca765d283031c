use Rattle.desk_journal.proofs.laws.cut_files_keep_the_first.Goals as goal
use Rattle.desk_journal.proofs.DamageLemmas.{cut_files_keep_the_first}

pub returns : goal.returns
returns c = cut_files_keep_the_first
