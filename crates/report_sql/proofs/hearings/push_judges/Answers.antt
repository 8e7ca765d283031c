use Rattle.std.proofs.Common.{arith}
use Rattle.report_sql.specs.Hearings.{judge_row}
use Rattle.report_sql.proofs.RowLemmas.{all_numbered, one_numbered}
use Rattle.report_sql.proofs.hearings.push_judges.Goals as goal

pub loop-judge-preserved : goal.loop-judge-preserved
loop-judge-preserved c = record {
  place = omega arith;
  so_far = one_numbered (judge_row c.args.court.now c.args.case c.args.motion) c.loop-judge.place c.args.judges.now c.loop-judge.judge-index _ c.loop-judge.out _ _ c.loop-judge-test.true c.in_ok-push_judge.ensures c.loop-judge.invariant.so_far;
}

pub returns : goal.returns
returns c =
    all_numbered (judge_row c.args.court.now c.args.case c.args.motion) c.loop-judge.place c.args.judges.now c.loop-judge.judge-index _ _ (omega (arith, c.loop-judge-test.false)) c.loop-judge.invariant.so_far
