use Rattle.std.proofs.Common.{◌≡◌, ◌++◌, drop}
use Rattle.std.specs.List.{flat_map}
use Rattle.report_program.specs.Past.{undone_change}
use Rattle.report_program.proofs.past.push_all_undone.Given as goal

-- what is added so far, and what is left to add, are all
abbrev pub invariant-loop-row : goal.invariant-loop-row
invariant-loop-row l = l.changes.items ++ flat_map undone_change (drop l.row-index l.rows) ≡ l.fn.changes.items ++ flat_map undone_change l.rows
