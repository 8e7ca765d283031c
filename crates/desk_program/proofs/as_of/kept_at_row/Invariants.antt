use Rattle.std.proofs.Common.{◌≡◌, ◌≤◌, ◌+◌, [], length, take}
use Rattle.desk_journal.specs.Words.{batch_of}
use Rattle.desk_entries.specs.Words.{row_entries}
use Rattle.desk_program.specs.AsOf.{HadCome}
use Rattle.desk_program.specs.declared.as_of.Moment.TheVariants.{Row}
use Rattle.desk_program.proofs.as_of.kept_at_row.Given as goal

-- the rows so far, and how many more may come, are as many as the number says, and none of what came so far is too late
abbrev pub invariant-loop-place : goal.invariant-loop-place
invariant-loop-place l = record {
  begun : 1 ≤ l.place;
  counted : length (row_entries (batch_of (take l.place l.entries))) + l.left ≡ l.number;
  had : HadCome (Row l.number) (batch_of (take l.place l.entries)) [];
}
