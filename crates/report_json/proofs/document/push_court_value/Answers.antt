use Rattle.report_json.specs.Document.{court_fields, court_value}
use Rattle.report_json.proofs.TokenLemmas.{object_is}
use Rattle.report_json.proofs.document.push_court_value.Goals as goal

pub returns : goal.returns
unfolding court_value
returns c =
    rw (← object_is (court_fields c.args.court.now) c.args.out.now, ← c.in_ok-begin_object.ensures, ← c.in_ok-push_court_fields.ensures)
    c.end_object.ensures
