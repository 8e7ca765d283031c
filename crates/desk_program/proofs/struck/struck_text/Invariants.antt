use Rattle.std.proofs.Common.{◌≡◌, ◌++◌, drop}
use Rattle.desk_journal.specs.Words.{batch_of}
use Rattle.desk_program.specs.Struck.{rows_restored, struck_text}
use Rattle.desk_program.proofs.struck.struck_text.Given as goal

-- the rows that are restored are those of the entries that are left; and the lines so far, and those of these entries, are all the lines
abbrev pub invariant-loop-entry : goal.invariant-loop-entry
invariant-loop-entry l =
    (l.restored ≡ rows_restored (batch_of (drop l.entry-index l.entries)))
    × (l.text.items ++ struck_text (batch_of (drop l.entry-index l.entries)) ≡ struck_text (batch_of l.entries))
