use Rattle.std.proofs.Common.{◌≤◌, length, take}
use Rattle.std.specs.Prelude.{All}
use Rattle.desk_journal.proofs.BatchLemmas.{IsPacked}
use Rattle.desk_journal.proofs.pack.pack.Given as goal

abbrev pub invariant-loop-entry : goal.invariant-loop-entry
invariant-loop-entry l = record {
  packed : IsPacked l.previous l.durable l.stamp l.batch l.entry-index l.buffer.items l.sum;
  short : All (λ v. length v.items ≤ 16777216) (take l.entry-index l.batch);
}
