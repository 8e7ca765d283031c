use Rattle.report_memo.proofs.report.answer.Goals as goal

pub returns-in-Some : goal.returns-in-Some
returns-in-Some c = rw c.in-Some.is c.called_text.ensures

pub returns-in_ok-memo_text-in-None : goal.returns-in_ok-memo_text-in-None
returns-in_ok-memo_text-in-None c = rw c.in-None.is c.in_ok-memo_text-in-None.ensures
