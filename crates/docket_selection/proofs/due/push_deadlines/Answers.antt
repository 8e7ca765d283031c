use Rattle.docket_selection.specs.Due.{due_deadline}
use Rattle.docket_selection.proofs.DueLemmas.{one_more}
use Rattle.docket_selection.proofs.due.push_deadlines.Goals as goal

pub loop-deadline-preserved : goal.loop-deadline-preserved
loop-deadline-preserved c =
    one_more (due_deadline c.args.days.now c.args.clock.now c.args.case c.args.choice.now c.args.before) c.args.deadlines.now c.loop-deadline.deadline-index c.deadline-item.result c.in_ok-due.due c.loop-deadline.list.items _ _
    c.loop-deadline-test.true c.deadline-item.is c.in_ok-due.ensures c.in_ok-push_if.ensures c.loop-deadline.invariant
