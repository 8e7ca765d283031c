use Rattle.std.proofs.Common.{codes}
use Rattle.docket_rows.specs.Words.{setup_of, opening_rows}
use Rattle.report_json.specs.Document.{answers_from}
use Rattle.report_json.proofs.TokenLemmas.{list_field_is}
use Rattle.report_json.proofs.document.push_answers.Goals as goal

pub returns-clause-answers : goal.returns-clause-answers
returns-clause-answers c =
    rw (← list_field_is (codes "answers") (answers_from c.args.court.now c.args.labels.now (opening_rows (setup_of c.args.court.now)) c.args.rows.now) c.args.out.now, ← c.in_ok-key.ensures, ← c.in_ok-begin_array.ensures, ← c.in_ok-push_answered.ensures.answers)
    c.end_array.ensures
