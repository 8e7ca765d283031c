use Rattle.desk_journal.proofs.next.next_frame.Goals as goal
use Rattle.desk_journal.proofs.NextLemmas.{none_without}

pub returns-in-None-clause-none : goal.returns-in-None-clause-none
returns-in-None-clause-none c = none_without c.args.previous.now c.args.bytes.now c.in-None.ensures
