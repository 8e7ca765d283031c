use Rattle.std.proofs.Common.{◌≡◌, ◌≤◌, ◌++◌, drop}
use Rattle.desk_journal.specs.Words.{batch_of}
use Rattle.desk_entries.specs.Past.{rows_struck}
use Rattle.desk_entries.proofs.past.struck_rows.Given as goal

-- the rows that are struck so far, and those of the entries that are left, are all
abbrev pub invariant-loop-place : goal.invariant-loop-place
invariant-loop-place l = record {
  begun : 1 ≤ l.place;
  few : l.number ≤ l.place;
  rows : l.rows.items ++ rows_struck l.under l.moved l.number (batch_of (drop l.place l.entries)) ≡ rows_struck l.under l.moved 1 (drop 1 (batch_of l.entries));
}
