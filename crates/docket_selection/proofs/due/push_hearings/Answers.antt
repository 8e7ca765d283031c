use Rattle.std.proofs.Common.{◌∙◌, ap}
use Rattle.docket_selection.specs.Due.{due_hearing, due_only}
use Rattle.docket_selection.proofs.DueLemmas.{one_more}
use Rattle.docket_selection.proofs.due.push_hearings.Goals as goal

pub loop-motion-preserved : goal.loop-motion-preserved
loop-motion-preserved c =
    one_more (due_hearing c.args.case c.args.choice.now c.args.before) c.args.motions.now c.loop-motion.motion-index c.motion-item.result c.due_only-due.result c.loop-motion.list.items _ _
    c.loop-motion-test.true c.motion-item.is (c.due_only-due.ensures ∙ ap (due_only c.args.choice.now c.args.before) c.hearing_item.ensures) c.in_ok-push_if.ensures c.loop-motion.invariant
