use Rattle.std.proofs.Common.{codes}
use Rattle.docket_rows.specs.Words.{opening_rows, setup_of}
use Rattle.report_json.specs.Document.{answers_from, calendars_field, cases_field, court_value, docketed_by}
use Rattle.report_json.specs.Values.{array_of, field}
use Rattle.report_json.proofs.TokenLemmas.{four_fields}
use Rattle.report_json.proofs.document.push_document_fields.Goals as goal

pub returns-clause-sheets : goal.returns-clause-sheets
returns-clause-sheets c =
    c.in_ok-sheets.ensures (docketed_by c.args.court.now c.args.rows.now) c.in_ok-push_answers.ensures.docket.stands

pub returns-clause-fields : goal.returns-clause-fields
returns-clause-fields c =
    let court = c.args.court.now in
    let labels = c.args.labels.now in
    let rows = c.args.rows.now in
    let sheets = c.in_ok-sheets.sheets.items in
    let all =
    four_fields (field (codes "court") (court_value court)) (field (codes "answers") (array_of (answers_from court labels (opening_rows (setup_of court)) rows)))
    (cases_field court labels sheets) (calendars_field court labels c.args.choice.now (docketed_by court rows)) c.args.out.now in
    rw (← all, ← c.in_ok-push_court.ensures, ← c.in_ok-push_answers.ensures.answers, ← c.deref.ensures.value, ← c.in_ok-called_field.ensures)
    (c.in_ok-push_calendars.ensures (docketed_by court rows) c.in_ok-push_answers.ensures.docket.stands)
