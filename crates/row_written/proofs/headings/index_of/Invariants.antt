use Rattle.std.proofs.Common.{◌≡◌, ◌+◌, drop}
use Rattle.csv.specs.Records.{fields_of}
use Rattle.row_written.specs.Headings.{index_of}
use Rattle.row_written.proofs.headings.index_of.Given as goal

abbrev pub invariant-loop-i : goal.invariant-loop-i
invariant-loop-i l = l.i + index_of l.name (drop l.i (fields_of l.names)) ≡ index_of l.name (fields_of l.names)
