use Rattle.std.proofs.Common.{◌≡◌, ◌++◌, drop}
use Rattle.csv.specs.Records.{fields_of}
use Rattle.row_written.specs.Cases.{with_one}
use Rattle.row_written.proofs.cases.with_one.Given as goal

-- the fields so far, and those that are left
abbrev pub invariant-loop-after : goal.invariant-loop-after
invariant-loop-after l = fields_of l.row ++ drop l.after (fields_of l.fields) ≡ with_one l.fn.place (fields_of l.fields)
