use Rattle.std.proofs.Common.{◌≡◌, take}
use Rattle.case_numbers.proofs.names.Names.copy.Given as goal

-- the names so far
abbrev pub invariant-loop-case : goal.invariant-loop-case
invariant-loop-case l = l.names ≡ take l.case-index l.cases
