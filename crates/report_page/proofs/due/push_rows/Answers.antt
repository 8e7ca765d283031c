use Rattle.std.proofs.Common.{arith}
use Rattle.docket_selection.specs.declared.item.DueItem.{DueItem}
use Rattle.report_page.specs.Due.{day_row_if_new, due_row}
use Rattle.report_page.proofs.RowLemmas.{all_rows, rows_more}
use Rattle.report_page.proofs.due.push_rows.Goals as goal

pub loop-item-preserved : goal.loop-item-preserved
loop-item-preserved c =
    rows_more (λ (item : DueItem). item.day) day_row_if_new (due_row c.args.court.now c.args.labels.now) c.loop-item.before c.args.items.now c.loop-item.item-index c.item-item.result _ _ _ _
    c.loop-item-test.true c.item-item.is c.in_ok-push_day_if_new.ensures c.in_ok-push_row.ensures c.loop-item.invariant

pub returns : goal.returns
returns c =
    all_rows (λ (item : DueItem). item.day) day_row_if_new (due_row c.args.court.now c.args.labels.now) c.loop-item.before c.args.items.now c.loop-item.item-index _ _
    (omega (arith, c.loop-item-test.false)) c.loop-item.invariant
