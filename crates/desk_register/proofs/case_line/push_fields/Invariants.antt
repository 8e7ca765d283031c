use Rattle.std.proofs.Common.{◌≡◌, ◌++◌, drop, take}
use Rattle.csv.specs.Records.{fields_of}
use Rattle.desk_register.proofs.case_line.push_fields.Given as goal

-- the fields so far, and those that are left
abbrev pub invariant-loop-place : goal.invariant-loop-place
invariant-loop-place l = fields_of l.row ++ drop l.place (take l.to (fields_of l.fields)) ≡ fields_of l.fn.row ++ drop l.from (take l.to (fields_of l.fields))
