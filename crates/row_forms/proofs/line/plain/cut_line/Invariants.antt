use Rattle.std.proofs.Common.{◌≡◌, ◌≤◌, [], drop}
use Rattle.std.specs.List.{slice_range}
use Rattle.csv.specs.Records.{fields_of, partial_of}
use Rattle.row_forms.specs.Inside.Plain.{cut}
use Rattle.row_forms.proofs.line.plain.cut_line.Given as goal

-- what is cut already, and what is left of the line, is the line
abbrev pub invariant-loop-i : goal.invariant-loop-i
invariant-loop-i l = record {
  begun : l.start ≤ l.i;
  whole : cut (fields_of l.row) (slice_range l.bytes l.start l.i) (drop l.i l.bytes) ≡ cut [] [] l.bytes;
  partial : partial_of l.row ≡ [];
}
