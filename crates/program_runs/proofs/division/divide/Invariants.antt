use Rattle.std.proofs.Common.{◌≡◌, ◌++◌, take, drop, true}
use Rattle.program_runs.specs.Division.{divided_from}
use Rattle.program_runs.proofs.division.divide.Given as goal

-- what was passed over comes before the division of what is left
abbrev pub invariant-loop-at : goal.invariant-loop-at
invariant-loop-at l = record {
  court : (divided_from true l.input).0 ≡ take l.at l.input ++ (divided_from l.begins_line (drop l.at l.input)).0;
  rows : (divided_from true l.input).1 ≡ (divided_from l.begins_line (drop l.at l.input)).1;
}
