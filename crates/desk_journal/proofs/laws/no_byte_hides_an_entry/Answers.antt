use Rattle.desk_journal.proofs.laws.no_byte_hides_an_entry.Goals as goal
use Rattle.desk_journal.proofs.HiddenLemmas.{no_byte_hides_an_entry}

pub returns : goal.returns
returns c = no_byte_hides_an_entry
