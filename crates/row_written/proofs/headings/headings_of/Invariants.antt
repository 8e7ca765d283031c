use Rattle.std.proofs.Common.{◌≡◌, ◌++◌, [], drop, map}
use Rattle.csv.specs.Records.{fields_of}
use Rattle.row_written.specs.Fault.{fault_in}
use Rattle.row_written.specs.Headings.{heading_faults, heading_of}
use Rattle.row_written.proofs.headings.headings_of.Given as goal

abbrev pub invariant-loop-i : goal.invariant-loop-i
invariant-loop-i l =
    let fields = fields_of l.fields in
    (fields_of l.headings ++ map heading_of (drop l.i fields) ≡ map heading_of fields)
    × (map fault_in l.faults.items ++ heading_faults l.text l.i (fields_of l.headings) (drop l.i fields) ≡ heading_faults l.text 0 [] fields)
