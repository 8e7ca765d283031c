use Rattle.std.proofs.Common.{◌∙◌, ap}
use Rattle.docket_rows.specs.declared.query.Query.TheVariants as query
use Rattle.docket_rows.specs.declared.view.View.{View}
use Rattle.docket_rows.specs.Words.{CourtSetup, view_of}
use Rattle.report_program.specs.Opened.{unless_sheet}
use Rattle.report_program.proofs.opened.closed_unless_shown.Goals as goal

pub returns : goal.returns
returns c docketed holds =
    c.unless_sheet.ensures
    ∙ ap (λ (view : View). unless_sheet view c.args.case) (c.in_ok-view.ensures.rows docketed holds.stands ∙ ap (λ (setup : CourtSetup). view_of setup docketed (query.Sheet c.args.case)) holds.setup_is)
