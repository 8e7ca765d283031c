use Rattle.std.proofs.Common.{◌∙◌, sym}
use Rattle.report_program.proofs.report.written.Goals as goal

pub returns-in-Ok : goal.returns-in-Ok
returns-in-Ok c = λ is. c.text_written.ensures (sym is ∙ c.in-Ok.is)

pub returns-in-Err : goal.returns-in-Err
returns-in-Err c = λ is. c.line_written.ensures c.args.past.now c.args.rows.now (sym is ∙ c.in-Err.is)
