use Rattle.desk_register.proofs.EntryLemmas.{left_follows}
use Rattle.desk_register.proofs.laws.what_is_left_follows.Goals as goal

pub returns : goal.returns
returns c = left_follows
