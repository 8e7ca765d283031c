use Rattle.desk_journal.proofs.laws.no_byte_changes_a_stamp.Goals as goal
use Rattle.desk_journal.proofs.HiddenLemmas.{no_byte_changes_a_stamp}

pub returns : goal.returns
returns c = no_byte_changes_a_stamp
