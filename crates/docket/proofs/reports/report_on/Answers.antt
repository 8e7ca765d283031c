use Rattle.std.proofs.Common.{subst, sym}
use Rattle.desk_journal.specs.Words.{batch_of}
use Rattle.docket_rows.specs.Words.{setup_of}
use Rattle.office_texts.specs.Run.Words.{Holds}
use Rattle.desk_entries.specs.Words.{rows_standing}
use Rattle.desk_entries.proofs.CallerLemmas.{of_the_docket}
use Rattle.docket.specs.Reports.{past_of}
use Rattle.docket.proofs.ReportLemmas.{found_of_entries}
use Rattle.docket.proofs.reports.report_on.Goals as goal

pub report_of_docket-requires : goal.report_of_docket-requires
report_of_docket-requires c = (c.docket.ensures c.args.docketed.now.standing (batch_of c.args.entries.now) c.requires.docketed.stands.at).setup_is

pub returns-in-Some : goal.returns-in-Some
returns-in-Some c =
    let entries = batch_of c.args.entries.now in
    let under = c.args.docketed.now.standing in
    let at = c.requires.docketed.stands.at in
    let rows = rows_standing under entries in
    let holds = subst (Holds (setup_of under.court) c.docket.result.now) (sym (of_the_docket under entries at.begun)) (c.docket.ensures under entries at) in
    found_of_entries c.args.asked.now entries under c.requires.docketed.standing c.in-Some.found
    (rw (c.standing_file.ensures, c.cases.ensures under entries at, c.moved.ensures, c.numbers.ensures under entries at, c.called.ensures under entries at, c.in-Some.is) at (c.in_ok-found.ensures.found (past_of under entries) rows holds))

pub returns-in-None : goal.returns-in-None
returns-in-None c = c.report_by_rows.ensures
