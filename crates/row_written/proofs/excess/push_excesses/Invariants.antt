use Rattle.std.proofs.Common.{◌≡◌, ◌++◌, drop, map}
use Rattle.std.specs.Prelude.{option_map}
use Rattle.csv.specs.Records.{fields_of}
use Rattle.row_written.specs.Fault.{fault_in}
use Rattle.row_written.specs.Rows.{excess_faults}
use Rattle.row_written.proofs.excess.push_excesses.Given as goal

abbrev pub invariant-loop-i : goal.invariant-loop-i
invariant-loop-i l =
    let header = option_map fields_of l.header in
    map fault_in l.faults.items ++ excess_faults header l.columns l.text l.i (drop l.i (fields_of l.fields)) ≡ map fault_in l.fn.faults.items ++ excess_faults header l.columns l.text 0 (fields_of l.fields)
