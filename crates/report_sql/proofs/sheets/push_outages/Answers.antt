use Rattle.std.proofs.Common.{◌∙◌, ◌++◌, ap, arith}
use Rattle.report_sql.specs.Script.{outage_row}
use Rattle.report_sql.proofs.RowLemmas.{all_numbered, one_numbered}
use Rattle.report_sql.proofs.sheets.push_outages.Goals as goal

pub loop-outage-preserved : goal.loop-outage-preserved
loop-outage-preserved c =
    let before = c.loop-outage.out in
    let place = c.loop-outage.place in
    record {
      place = omega arith;
      so_far = one_numbered outage_row place c.args.outages.now c.loop-outage.outage-index c.outage-item.result before _ _ c.loop-outage-test.true
          (c.in_ok-push_outage.ensures ∙ ap (λ o. before ++ outage_row place o) c.outage-item.is) c.loop-outage.invariant.so_far;
    }

pub returns : goal.returns
returns c =
    all_numbered outage_row c.loop-outage.place c.args.outages.now c.loop-outage.outage-index _ _ (omega (arith, c.loop-outage-test.false)) c.loop-outage.invariant.so_far
