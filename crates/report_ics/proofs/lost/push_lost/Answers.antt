use Rattle.std.proofs.Common.{◌++◌, ◌∙◌, ap, arith, option_to_list}
use Rattle.report_ics.specs.Appointments.{lost_deadlines, lost_only}
use Rattle.report_ics.proofs.EventLemmas.{all_items, item_more}
use Rattle.report_ics.proofs.lost.push_lost.Goals as goal

pub loop-item-preserved : goal.loop-item-preserved
unfolding lost_deadlines
loop-item-preserved c =
    item_more (lost_only c.args.choice.now c.args.histories.now) c.args.lost.now c.loop-item.item-index c.item-item.result c.loop-item.list.items _ _
    c.loop-item-test.true c.item-item.is (c.in_ok-push_if.ensures ∙ ap (λ off. c.loop-item.list.items ++ option_to_list off) c.in_ok-off.ensures) c.loop-item.invariant

pub returns : goal.returns
unfolding lost_deadlines
returns c =
    all_items (lost_only c.args.choice.now c.args.histories.now) c.args.lost.now c.loop-item.item-index _ _ (omega (arith, c.loop-item-test.false)) c.loop-item.invariant
