use Rattle.std.proofs.Common.{◌≡◌}
use Rattle.published_docket.specs.Cells.{opening_cells}
use Rattle.published_docket.proofs.cells.opening_cells.Given as goal

-- the cells so far
abbrev pub invariant-loop-number : goal.invariant-loop-number
invariant-loop-number l = l.cells.items ≡ opening_cells l.parts l.number
