use Rattle.std.proofs.Common.{◌≡◌, ◌≤◌, ◌+◌, drop}
use Rattle.desk_journal.specs.Words.{batch_of}
use Rattle.desk_entries.specs.Past.{corrected_by, corrections_in}
use Rattle.desk_entries.proofs.past.corrections_in.Given as goal

-- with the entries that are left, what is counted so far is all
abbrev pub invariant-loop-place : goal.invariant-loop-place
invariant-loop-place l = record {
  begun : 1 ≤ l.place;
  rows_few : l.rows + 1 ≤ l.place;
  count_few : l.corrected.count + 1 ≤ l.place;
  so_far : corrected_by l.rows l.corrected (batch_of (drop l.place l.entries)) ≡ corrections_in (batch_of l.entries);
}
