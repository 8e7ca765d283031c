use Rattle.desk_journal.proofs.laws.no_entry_is_another.Goals as goal
use Rattle.desk_journal.proofs.DamageLemmas.{no_entry_is_another}

pub returns : goal.returns
returns c = no_entry_is_another
