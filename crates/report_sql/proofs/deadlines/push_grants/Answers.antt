use Rattle.std.proofs.Common.{◌∙◌, ◌++◌, ap, arith}
use Rattle.report_sql.specs.Deadlines.{grant_row}
use Rattle.report_sql.proofs.RowLemmas.{all_numbered, one_numbered}
use Rattle.report_sql.proofs.deadlines.push_grants.Goals as goal

pub loop-grant-preserved : goal.loop-grant-preserved
loop-grant-preserved c =
    let before = c.loop-grant.out in
    let here = grant_row c.args.case c.args.deadline in
    let place = c.loop-grant.place in
    record {
      place = omega arith;
      so_far = one_numbered here place c.args.grants.now c.loop-grant.grant-index c.grant-item.result before _ _ c.loop-grant-test.true
          (c.in_ok-push_grant.ensures ∙ ap (λ g. before ++ here place g) c.grant-item.is) c.loop-grant.invariant.so_far;
    }

pub returns : goal.returns
returns c =
    all_numbered (grant_row c.args.case c.args.deadline) c.loop-grant.place c.args.grants.now c.loop-grant.grant-index _ _ (omega (arith, c.loop-grant-test.false)) c.loop-grant.invariant.so_far
