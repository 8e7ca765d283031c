use Rattle.std.proofs.Common.{◌≡◌, ◌-◌, ◌++◌}
use Rattle.docket_rows.specs.Words.{facts_in}
use Rattle.docket_core.specs.Words.{parts_held}
use Rattle.docket_selection.specs.Pending.{pending_from}
use Rattle.docket_selection.proofs.pending.push_judges.Given as goal

-- what is listed so far, and under the judges that are left, is all
abbrev pub invariant-loop-judge : goal.invariant-loop-judge
invariant-loop-judge l = l.list.items ++ pending_from l.kind l.day (facts_in (parts_held l.docket)) l.sheets l.judge (l.count - l.judge) ≡ l.fn.list.items ++ pending_from l.kind l.day (facts_in (parts_held l.docket)) l.sheets 0 l.count
