use Rattle.std.proofs.Common.{◌≡◌, ◌++◌, drop}
use Rattle.std.specs.List.{filter_map}
use Rattle.report_program.specs.Lost.{lost_by}
use Rattle.report_program.proofs.past.push_lost.Given as goal

-- what is added so far, and what is left to add, are all
abbrev pub invariant-loop-row : goal.invariant-loop-row
invariant-loop-row l = l.lost.items ++ filter_map (lost_by l.given) (drop l.row-index l.struck) ≡ l.fn.lost.items ++ filter_map (lost_by l.given) l.struck
