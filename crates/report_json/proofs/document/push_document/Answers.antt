use Rattle.report_json.specs.Document.{document_fields, document_value}
use Rattle.report_json.proofs.TokenLemmas.{object_is}
use Rattle.report_json.proofs.document.push_document.Goals as goal

pub returns-clause-object : goal.returns-clause-object
unfolding document_value
returns-clause-object c =
    rw (← object_is (document_fields c.args.court.now c.args.labels.now c.args.choice.now c.args.rows.now c.in_ok-sheets.sheets.items) c.args.out.now, ← c.in_ok-begin_object.ensures, ← c.in_ok-sheets.ensures.fields)
    c.in_ok-end_object.ensures
