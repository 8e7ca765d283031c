use Rattle.std.proofs.Common.{◌≡◌, ◌++◌, drop}
use Rattle.std.specs.List.{flat_map}
use Rattle.report_sql.specs.Called.{label_of_deadline}
use Rattle.report_sql.proofs.called.push_deadlines.Given as goal

-- the labels so far, and those that are left, are all
abbrev pub invariant-loop-deadline : goal.invariant-loop-deadline
invariant-loop-deadline l = l.out ++ flat_map (label_of_deadline l.labels l.case) (drop l.deadline-index l.deadlines) ≡ l.fn.out ++ flat_map (label_of_deadline l.labels l.case) l.deadlines
