use Rattle.std.proofs.Common.{◌≡◌, ◌++◌, drop}
use Rattle.desk_program.specs.Leave.{asking_of}
use Rattle.desk_program.proofs.changed_text.numbers_asking.Given as goal

-- the numbers so far, and those of the rows that are left, are all
abbrev pub invariant-loop-row : goal.invariant-loop-row
invariant-loop-row l = l.numbers.items ++ asking_of l.before (drop l.row-index l.rows) ≡ asking_of l.before l.rows
