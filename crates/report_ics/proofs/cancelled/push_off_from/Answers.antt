use Rattle.std.proofs.Common.{◌+◌, arith}
use Rattle.docket_selection.proofs.CallerLemmas.{no_number_more, one_number_more}
use Rattle.report_ics.specs.Appointments.{off_from, off_of_case}
use Rattle.report_ics.proofs.cancelled.push_off_from.Goals as goal

pub loop-case-preserved : goal.loop-case-preserved
unfolding off_from
loop-case-preserved c = record {
  within = omega (arith, c.loop-case-test.true);
  so_far = one_number_more (off_of_case c.args.choice.now c.args.histories.now) c.loop-case.case (c.args.first + c.args.count) c.loop-case.list.items _ _ c.loop-case-test.true c.in_ok-push_off_of.ensures c.loop-case.invariant.so_far;
}

pub returns : goal.returns
unfolding off_from
returns c = no_number_more (off_of_case c.args.choice.now c.args.histories.now) c.loop-case.case (c.args.first + c.args.count) _ _ c.loop-case-test.false c.loop-case.invariant.so_far
