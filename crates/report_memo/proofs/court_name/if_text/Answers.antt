use Rattle.report_memo.proofs.CourtNameLemmas.{no_text_is, text_is}
use Rattle.report_memo.proofs.court_name.if_text.Goals as goal

pub returns-in-Ok : goal.returns-in-Ok
returns-in-Ok c = text_is c.in-Ok.text.now c.args.bytes.now c.in-Ok.ensures.cases.0 c.in-Ok.ensures.cases.1

pub returns-in-Err : goal.returns-in-Err
returns-in-Err c = no_text_is c.args.bytes.now c.in-Err.ensures.cases.0
