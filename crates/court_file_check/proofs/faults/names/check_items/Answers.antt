use Rattle.court_file_check.specs.Inside.Names.{texts_of}
use Rattle.court_file_check.proofs.ItemLemmas.{name_goes_on, names_done}
use Rattle.court_file_check.proofs.faults.names.check_items.Goals as goal

pub loop-number-preserved : goal.loop-number-preserved
loop-number-preserved c = name_goes_on c.args.key c.loop-number.faults c.check_item.new.faults _ (texts_of c.loop-number.names.items) (texts_of c.check_item.new.names.items) c.args.values.now c.loop-number.number c.index-values-number.result c.loop-number-test.true c.index-values-number.is c.in_ok-check_item.ensures.faults c.in_ok-check_item.ensures.names c.loop-number.invariant

pub returns : goal.returns
returns c = names_done c.args.key c.loop-number.faults _ (texts_of c.loop-number.names.items) c.args.values.now c.loop-number.number c.loop-number-test.false c.loop-number.invariant
