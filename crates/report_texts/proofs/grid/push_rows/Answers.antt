use Rattle.report_texts.specs.Grid.{slot_row}
use Rattle.docket_selection.proofs.CallerLemmas.{no_number_more, one_number_more}
use Rattle.report_texts.proofs.grid.push_rows.Goals as goal

pub loop-slot-preserved : goal.loop-slot-preserved
loop-slot-preserved c =
    one_number_more (slot_row c.args.week.now) c.loop-slot.slot c.args.end _ _ _ c.loop-slot-test.true c.in_ok-push_row.ensures c.loop-slot.invariant

pub returns : goal.returns
returns c = no_number_more (slot_row c.args.week.now) c.loop-slot.slot c.args.end _ _ c.loop-slot-test.false c.loop-slot.invariant
