use Rattle.desk_journal.specs.Words.{batch_of}
use Rattle.docket.proofs.logs.named_case.Goals as goal

pub returns-in-Some : goal.returns-in-Some
returns-in-Some c = rw c.in-Some.is at (c.number_in-number.ensures (batch_of c.args.entries.now) c.in_ok-docketed.ensures.docketed)
