use Rattle.std.proofs.Common.{◌≡◌, drop}
use Rattle.desk_journal.specs.Words.{batch_of}
use Rattle.desk_entries.specs.Follow.{are_rows}
use Rattle.desk_entries.proofs.follow.are_rows.Given as goal

-- all entries are rows if those are that are left
abbrev pub invariant-loop-place : goal.invariant-loop-place
invariant-loop-place l = are_rows (batch_of (drop l.place l.entries)) ≡ are_rows (batch_of l.entries)
