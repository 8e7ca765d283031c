use Rattle.std.proofs.Common.{[], arith}
use Rattle.desk_journal.specs.Batches.{batch_of}
use Rattle.desk_journal.proofs.recovery.stamped_in.Goals as goal
use Rattle.desk_journal.proofs.RecoverLemmas.{found_as_many, found_stamped}

pub returns-clause-stamps : goal.returns-clause-stamps
returns-clause-stamps c =
    let found = c.in_ok-found.found in
    (batch_of found.entries.items, found_stamped c.args.bytes.now found.entries.items found.stamps.items found.end (c.in_ok-found.ensures.found [] c.none.ensures.end))

pub returns-clause-as_many : goal.returns-clause-as_many
returns-clause-as_many c =
    let found = c.in_ok-found.found in
    found_as_many [] c.args.bytes.now found.entries.items found.stamps.items found.end (c.in_ok-found.ensures.found [] c.none.ensures.end)

pub returns-clause-whole : goal.returns-clause-whole
returns-clause-whole c = c.in_ok-found.ensures.whole [] c.none.ensures.end (omega (arith, c.if-bytes-le2.false))
