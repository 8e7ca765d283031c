use Rattle.std.proofs.Common.{◌∙◌, ap}
use Rattle.docket_selection.specs.LeftOut.{left_out_deadline, left_out_only}
use Rattle.docket_selection.proofs.DueLemmas.{one_more}
use Rattle.docket_selection.proofs.left_out.push_deadlines.Goals as goal

pub loop-deadline-preserved : goal.loop-deadline-preserved
loop-deadline-preserved c =
    one_more (left_out_deadline c.args.clock.now c.args.case c.args.choice.now c.args.before c.args.closed) c.args.deadlines.now c.loop-deadline.deadline-index c.deadline-item.result c.left_out_only-left.result c.loop-deadline.list.items _ _
    c.loop-deadline-test.true c.deadline-item.is (c.left_out_only-left.ensures ∙ ap (left_out_only c.args.choice.now c.args.before c.args.closed) c.deadline_item.ensures) c.in_ok-push_if.ensures c.loop-deadline.invariant
