use Rattle.court_file_check.proofs.ItemLemmas.{date_goes_on, dates_done}
use Rattle.court_file_check.proofs.faults.dates.check_items.Goals as goal

pub loop-number-preserved : goal.loop-number-preserved
loop-number-preserved c = date_goes_on c.args.key c.loop-number.faults c.check_item.new.faults _ c.args.values.now c.loop-number.number c.index-values-number.result c.loop-number-test.true c.index-values-number.is c.in_ok-check_item.ensures c.loop-number.invariant

pub returns : goal.returns
returns c = dates_done c.args.key c.loop-number.faults _ c.args.values.now c.loop-number.number c.loop-number-test.false c.loop-number.invariant
