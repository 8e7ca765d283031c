use Rattle.std.proofs.Common.{◌≡◌, ◌++◌, drop}
use Rattle.std.specs.List.{flat_map}
use Rattle.report_sql.specs.Deadlines.{deadline_rows}
use Rattle.report_sql.proofs.sheets.push_deadlines.Given as goal

-- the deadlines so far, and those that are left, are all
abbrev pub invariant-loop-deadline : goal.invariant-loop-deadline
invariant-loop-deadline l = l.out ++ flat_map (deadline_rows l.clock l.case) (drop l.deadline-index l.deadlines) ≡ l.fn.out ++ flat_map (deadline_rows l.clock l.case) l.deadlines
