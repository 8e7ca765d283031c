use Rattle.std.proofs.Common.{◌≡◌, drop}
use Rattle.std.specs.Map.{lookup}
use Rattle.versioned_steps.proofs.found.value_written.Given as goal

-- the part is found among the writes that are left as among all
abbrev pub invariant-loop-write : goal.invariant-loop-write
invariant-loop-write g l = lookup (g.T.PartialEq.eq l.part) (drop l.write-index l.writes) ≡ lookup (g.T.PartialEq.eq l.part) l.writes
