use Rattle.std.proofs.Common.{◌≡◌, ◌+◌, ◌++◌, drop}
use Rattle.row_forms.specs.Numbered.{numbered_from}
use Rattle.row_forms.proofs.numbered.numbered_rows.Given as goal

-- the rows so far with their numbers, and the others with theirs, are all
abbrev pub invariant-loop-row : goal.invariant-loop-row
invariant-loop-row l = record {
  numbers : l.number ≡ l.row-index + 1;
  so_far : l.numbered.items ++ numbered_from l.number (drop l.row-index l.rows) ≡ numbered_from 1 l.rows;
}
