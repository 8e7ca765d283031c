use Rattle.report_json.proofs.document.push_until.Goals as goal

pub returns-in-Some : goal.returns-in-Some
returns-in-Some c = rw c.in-Some.is c.minute_field.ensures
