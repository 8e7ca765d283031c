use Rattle.std.proofs.Common.{◌∙◌, ap}
use Rattle.docket_rows.specs.declared.query.Query.TheVariants as query
use Rattle.docket_rows.specs.Words.{opening_rows, setup_of, view_of}
use Rattle.row_forms.specs.Words.{rows_of}
use Rattle.office_texts.specs.Run.Words.{docketed_after}
use Rattle.report_memo.specs.AboutCase.{assigned_after, assigned_on}
use Rattle.report_memo.proofs.about_case.assigned_after.Goals as goal

pub returns : goal.returns
unfolding assigned_after
returns c =
    let setup = setup_of c.args.court.now in
    let docketed = docketed_after setup (opening_rows setup) (rows_of c.args.rows.now) in
    let holds = c.in_ok-docket.ensures.docket in
    let shown = c.in_ok-view.ensures.rows docketed holds.stands ∙ ap (λ b. view_of b docketed (query.Sheet c.args.case)) holds.setup_is in
    c.assigned_on.ensures ∙ ap assigned_on shown
