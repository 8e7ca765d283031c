use Rattle.std.proofs.Common.{◌≡◌, ◌++◌, drop}
use Rattle.std.specs.List.{flat_map}
use Rattle.report_sql.specs.Literals.{doubled}
use Rattle.report_sql.proofs.literals.push_doubled.Given as goal

-- what was added, and what is left to add, are the whole text, with each quote twice
abbrev pub invariant-loop-byte : goal.invariant-loop-byte
invariant-loop-byte l = l.bytes.items ++ flat_map doubled (drop l.byte-index l.text) ≡ l.fn.bytes.items ++ flat_map doubled l.text
