use Rattle.std.proofs.Common.{◌≡◌, ◌≤◌, map, take}
use Rattle.desk_journal.specs.Words.{batch_of}
use Rattle.desk_register.specs.Words.{StandsAt, change_in}
use Rattle.desk_entries.specs.Review.{changes_by}
use Rattle.desk_entries.specs.Reported.{rows_standing}
use Rattle.desk_entries.proofs.reported.standing_rows.Given as goal

-- the rows of the entries so far are given and decided, and the register has taken these
abbrev pub invariant-loop-place : goal.invariant-loop-place
invariant-loop-place l = record {
  begun : 1 ≤ l.place;
  stands : StandsAt l.under l.register (batch_of (take l.place l.entries));
  rows : l.rows.items ≡ rows_standing l.under (batch_of (take l.place l.entries));
  changes : map change_in l.differences.items ≡ changes_by l.under (batch_of (take l.place l.entries));
}
