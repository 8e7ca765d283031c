use Rattle.report_program.proofs.report.answer_beside.Goals as goal

pub returns : goal.returns
returns c = λ holds. c.written.ensures (c.in_ok-found.ensures c.args.rows.now holds)
