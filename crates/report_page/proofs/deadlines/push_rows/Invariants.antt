use Rattle.std.proofs.Common.{◌≡◌, ◌++◌, drop}
use Rattle.std.specs.List.{flat_map}
use Rattle.report_page.specs.Cases.{deadline_rows}
use Rattle.report_page.proofs.deadlines.push_rows.Given as goal

-- the rows so far, and those that are left, are all
abbrev pub invariant-loop-explained : goal.invariant-loop-explained
invariant-loop-explained l = l.page ++ flat_map (deadline_rows l.days l.clock l.labels l.case) (drop l.explained-index l.deadlines) ≡ l.fn.page ++ flat_map (deadline_rows l.days l.clock l.labels l.case) l.deadlines
