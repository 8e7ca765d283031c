use Rattle.std.proofs.Common.{◌≡◌, ◌≤◌, [], drop}
use Rattle.std.specs.Prelude.{slice_index_or}
use Rattle.desk_journal.specs.Words.{batch_of}
use Rattle.desk_register.specs.Entries.{rows_among}
use Rattle.desk_register.specs.Striking.{entry_at}
use Rattle.desk_register.proofs.striking.entry_at.Given as goal

-- the row is at this place among the rows of the entries that are left
abbrev pub invariant-rows : goal.invariant-rows
invariant-rows l = record {
  begun : 1 ≤ l.place;
  there : slice_index_or (rows_among (batch_of (drop l.place l.entries))) l.left [] ≡ entry_at (batch_of l.entries) l.row;
}
