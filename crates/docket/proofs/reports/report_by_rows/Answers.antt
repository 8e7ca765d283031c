use Rattle.std.proofs.Common.{◌≡◌, ◌∙◌, ap, map, subst, sym}
use Rattle.std.proofs.lemmas.Result.{IfOk-weaker}
use Rattle.desk_journal.specs.Words.{batch_of}
use Rattle.docket_rows.specs.Words.{setup_of}
use Rattle.office_texts.specs.Run.Words.{Holds}
use Rattle.desk_entries.specs.Words.{change_in, changes_by, rows_standing}
use Rattle.desk_entries.proofs.CallerLemmas.{of_the_docket}
use Rattle.docket.proofs.ReportLemmas.{found_of_entries}
use Rattle.docket.proofs.reports.report_by_rows.Goals as goal

pub report_of_rows-requires : goal.report_of_rows-requires
report_of_rows-requires c = (c.docket.ensures c.args.docketed.now.standing (batch_of c.args.entries.now) c.requires.docketed.stands.at).setup_is

pub returns : goal.returns
returns c =
    let entries = batch_of c.args.entries.now in
    let under = c.args.docketed.now.standing in
    let at = c.requires.docketed.stands.at in
    let changes : map change_in c.deref.result.now ≡ changes_by under entries = ap (map change_in) c.deref.ensures.value ∙ c.in_ok-reported.ensures.changes in
    let rows : c.deref-2.result.now ≡ rows_standing under entries = c.deref-2.ensures.value ∙ c.in_ok-reported.ensures.rows in
    let holds = subst (Holds (setup_of under.court) c.docket.result.now) (sym (of_the_docket under entries at.begun)) (c.docket.ensures under entries at) in
    IfOk-weaker c.report_of_rows.result _ _ (found_of_entries c.args.asked.now entries under c.requires.docketed.standing)
    ((rw (c.standing_file.ensures, c.cases.ensures under entries at, c.moved.ensures, c.numbers.ensures under entries at, c.in_ok-reported.ensures.called, c.in_ok-past.ensures c.requires.docketed changes, rows) at c.report_of_rows.ensures) holds)
