use Rattle.std.proofs.Common.{◌≡◌, ◌≤◌, ◌++◌, drop}
use Rattle.desk_journal.specs.Words.{batch_of}
use Rattle.desk_program.specs.LogLast.{later_said}
use Rattle.desk_program.proofs.log_last.texts_said.Given as goal

-- the texts so far, and those of the entries that are left, are all
abbrev pub invariant-loop-place : goal.invariant-loop-place
invariant-loop-place l =
    (1 ≤ l.place)
    × (l.number ≤ l.place)
    × (batch_of l.texts.items ++ later_said l.choice l.named l.number (batch_of (drop l.place l.entries)) (drop l.place l.stamps) ≡ later_said l.choice l.named 1 (drop 1 (batch_of l.entries)) (drop 1 l.stamps))
