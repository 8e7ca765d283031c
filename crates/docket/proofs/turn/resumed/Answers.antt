use Rattle.desk_journal.specs.Words.{entries_of}
use Rattle.std.proofs.Common.{◌++◌}
use Rattle.docket.proofs.turn.resumed.Goals as goal

pub returns-in-Ok-Desk : goal.returns-in-Ok-Desk
returns-in-Ok-Desk g c = λ file durable left. λ clean.
    let (fs, remembers, begins) = left in
    let on = (rw c.in-Ok-Desk.field-0-is at c.in-Ok-Desk.ensures.resumed file fs durable remembers begins) clean in
    (entries_of fs ++ on.more, on.stands, on.undamaged, on.keeps)
