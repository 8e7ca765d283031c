use Rattle.std.proofs.Common.{◌≡◌, drop}
use Rattle.desk_journal.specs.Words.{batch_of}
use Rattle.desk_entries.specs.Past.{is_restored}
use Rattle.desk_entries.proofs.past.is_restored.Given as goal

-- none of the entries so far does so
abbrev pub invariant-loop-place : goal.invariant-loop-place
invariant-loop-place l = is_restored l.number (batch_of (drop l.place l.later)) ≡ is_restored l.number (batch_of l.later)
