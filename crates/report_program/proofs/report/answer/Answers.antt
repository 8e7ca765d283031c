use Rattle.report_program.proofs.report.answer.Goals as goal

pub returns : goal.returns
returns c = c.written.ensures c.in_ok-found.ensures
