use Rattle.std.proofs.Common.{◌≡◌, drop}
use Rattle.std.specs.List.{list_any}
use Rattle.csv.specs.Records.{fields_of}
use Rattle.row_written.specs.Headings.{is_filled}
use Rattle.row_written.proofs.rows.has_filled.Given as goal

abbrev pub invariant-loop-i : goal.invariant-loop-i
invariant-loop-i l = list_any is_filled (drop l.i (fields_of l.fields)) ≡ list_any is_filled (fields_of l.fields)
