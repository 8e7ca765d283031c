use Rattle.std.proofs.Common.{◌≡◌, ◌++◌, take}
use Rattle.std.specs.List.{flat_map}
use Rattle.desk_journal.specs.Words.{batch_of}
use Rattle.row_input.specs.Reading.{row_of}
use Rattle.row_input.proofs.reading.push_lines.Given as goal

-- the rows so far
abbrev pub invariant-loop-row : goal.invariant-loop-row
invariant-loop-row l = l.out.items ≡ l.fn.out.items ++ flat_map (row_of l.mark) (batch_of (take l.row-index l.rows))
