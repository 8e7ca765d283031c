use Rattle.std.proofs.Common.{◌≡◌, ◌≤◌, take}
use Rattle.row_forms.specs.Words.{names_of}
use Rattle.desk_journal.specs.Words.{batch_of}
use Rattle.desk_program.specs.RowCase.{cases_named}
use Rattle.desk_program.proofs.row_case.cases_named.Given as goal

-- the cases are those of the rows of the entries so far
abbrev pub invariant-loop-place : goal.invariant-loop-place
invariant-loop-place l = (1 ≤ l.place) × (l.cases.items ≡ cases_named (names_of l.court) (batch_of (take l.place l.entries)))
