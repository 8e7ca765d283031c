use Rattle.court_file_check.proofs.ItemLemmas.{slip_goes_on, slips_done}
use Rattle.court_file_check.proofs.warnings.slips.slips_of.Goals as goal

pub loop-number-preserved : goal.loop-number-preserved
loop-number-preserved c = slip_goes_on c.args.days.now c.loop-number.slips.items c.push_if.new.list.items _ c.loop-number.before c.later-before.result c.args.values.now c.loop-number.number c.index-values-number.result c.day_of_item-day.result c.slip_of.result c.loop-number-test.true c.index-values-number.is c.day_of_item-day.ensures c.slip_of.ensures c.in_ok-push_if.ensures c.later-before.ensures c.loop-number.invariant

pub returns : goal.returns
returns c = slips_done c.args.days.now c.loop-number.slips.items _ c.loop-number.before c.args.values.now c.loop-number.number c.loop-number-test.false c.loop-number.invariant
