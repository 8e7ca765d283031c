use Rattle.std.proofs.Common.{◌≡◌, ◌++◌, drop}
use Rattle.desk_journal.specs.Words.{batch_of}
use Rattle.desk_program.specs.Struck.{rows_restored}
use Rattle.desk_program.proofs.struck.rows_restored.Given as goal

-- the rows so far, and those of the entries that are left, are all the rows
abbrev pub invariant-loop-entry : goal.invariant-loop-entry
invariant-loop-entry l = l.rows.items ++ rows_restored (batch_of (drop l.entry-index l.entries)) ≡ rows_restored (batch_of l.entries)
