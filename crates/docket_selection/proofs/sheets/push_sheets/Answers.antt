use Rattle.std.proofs.Common.{◌+◌, ◌++◌, ◌∙◌, ap, arith}
use Rattle.docket_rows.specs.declared.query.Query.TheVariants as query
use Rattle.docket_rows.specs.Words.{view_of}
use Rattle.docket_selection.specs.Sheets.{sheet_seen, sheets_from}
use Rattle.docket_selection.proofs.DueLemmas.{no_number_more, one_number_more}
use Rattle.docket_selection.proofs.sheets.push_sheets.Goals as goal

pub loop-case-preserved : goal.loop-case-preserved
unfolding sheets_from
loop-case-preserved c = record {
  within = omega (arith, c.loop-case-test.true);
  so_far = λ docketed stands.
      one_number_more (λ case. sheet_seen (view_of c.args.docket.now.setup docketed (query.Sheet case))) c.loop-case.case (c.args.first + c.args.count) c.loop-case.list.items _ _ c.loop-case-test.true
      (c.in_ok-push_sheet.ensures ∙ ap (λ v. c.loop-case.list.items ++ sheet_seen v) (c.in_ok-view.ensures.rows docketed stands)) (c.loop-case.invariant.so_far docketed stands);
}

pub returns : goal.returns
unfolding sheets_from
returns c = λ docketed stands.
    no_number_more (λ case. sheet_seen (view_of c.args.docket.now.setup docketed (query.Sheet case))) c.loop-case.case (c.args.first + c.args.count) _ _ c.loop-case-test.false (c.loop-case.invariant.so_far docketed stands)
