use Rattle.std.proofs.Common.{arith}
use Rattle.desk_journal.specs.Frames.{first_checksum}
use Rattle.desk_journal.proofs.walk.count_entries.Goals as goal
use Rattle.desk_journal.proofs.WalkLemmas.{counted_more}

pub loop-left-preserved : goal.loop-left-preserved
loop-left-preserved c = record {
  read = counted_more first_checksum c.args.bytes.now c.loop-left.count c.loop-left.last c.loop-left.left.now c.in-Some.found.checksum c.in-Some.found.content.now c.in-Some.found.rest.now c.in-Some.found.durable
      c.loop-left.invariant.read c.in-Some.ensures.some;
  few = omega (arith, c.if-count-ge-MOST.false);
}
