use Rattle.std.proofs.Common.{◌++◌, arith}
use Rattle.desk_journal.specs.Frames.{first_checksum, frames}
use Rattle.desk_journal.proofs.LeftLemmas.{begun_after}
use Rattle.desk_journal.proofs.RecoverLemmas.{counted_tail}
use Rattle.desk_journal.proofs.WalkLemmas.{counted_on}
use Rattle.desk_journal.proofs.recovery.tail_after.Goals as goal

pub returns : goal.returns
returns c = λ fs ends some.
    let found = c.in_ok-found.found in
    let file = frames first_checksum fs ++ c.args.bytes.now in
    counted_tail file (begun_after file fs c.args.end.now ends some c.args.bytes.now) found.count found.last found.rest.now
    (counted_on fs c.args.end.now ends c.args.bytes.now found.entries.items found.last found.rest.now c.in_ok-found.ensures.read.read found.count c.in_ok-found.ensures.count)
    c.in_ok-found.ensures.shut (omega (arith, some, ends.count, c.in_ok-found.ensures.count)) c.split_at.result.1.now c.split_at.ensures.back
