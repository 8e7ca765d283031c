use Rattle.std.proofs.Common.{◌≡◌, ◌++◌, drop, map}
use Rattle.std.specs.Prelude.{option_map}
use Rattle.csv.specs.Records.{fields_of}
use Rattle.row_forms.specs.Words.{names_of}
use Rattle.row_written.specs.Fault.{fault_in}
use Rattle.row_written.specs.Rows.{column_faults, plain_in}
use Rattle.row_written.proofs.rows.plain_in.Given as goal

abbrev pub invariant-loop-i : goal.invariant-loop-i
invariant-loop-i l =
    let header = option_map fields_of l.header in
    (fields_of l.plain ++ plain_in (names_of l.court) l.order header l.text (fields_of l.fields) l.i (drop l.i l.columns) ≡ plain_in (names_of l.court) l.order header l.text (fields_of l.fields) 0 l.columns)
    × (map fault_in l.faults.items ++ column_faults (names_of l.court) l.order header l.text (fields_of l.fields) l.i (drop l.i l.columns) ≡ column_faults (names_of l.court) l.order header l.text (fields_of l.fields) 0 l.columns)
