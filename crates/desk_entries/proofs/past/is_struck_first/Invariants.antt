use Rattle.std.proofs.Common.{◌≡◌, drop}
use Rattle.desk_journal.specs.Words.{batch_of}
use Rattle.desk_entries.specs.Past.{is_struck_first}
use Rattle.desk_entries.proofs.past.is_struck_first.Given as goal

-- the entries so far are rows
abbrev pub invariant-loop-place : goal.invariant-loop-place
invariant-loop-place l = is_struck_first l.number (batch_of (drop l.place l.later)) ≡ is_struck_first l.number (batch_of l.later)
