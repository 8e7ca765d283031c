use Rattle.std.proofs.Common.{◌≡◌, ◌+◌, ◌++◌, drop}
use Rattle.report_sql.specs.Hearings.{judge_row}
use Rattle.report_sql.specs.Rows.{numbered}
use Rattle.report_sql.proofs.hearings.push_judges.Given as goal

-- the judges so far, and those that are left, are all
abbrev pub invariant-loop-judge : goal.invariant-loop-judge
invariant-loop-judge l = record {
  place : l.place ≡ l.judge-index + 1;
  so_far : l.out ++ numbered (judge_row l.court l.case l.motion) l.place (drop l.judge-index l.judges) ≡ l.fn.out ++ numbered (judge_row l.court l.case l.motion) 1 l.judges;
}
