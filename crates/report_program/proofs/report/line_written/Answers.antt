use Rattle.std.proofs.Common.{◌≡◌, Result, string_bytes, subst, sym}
use Rattle.std.specs.Prelude.{IsErrAnd}
use Rattle.report_program.specs.declared.chosen.Chosen.{Chosen}
use Rattle.report_program.specs.declared.chosen.Missing.{Missing}
use Rattle.report_program.specs.Calendar.{missing_line}
use Rattle.report_program.proofs.report.line_written.Goals as goal

pub returns : goal.returns
returns c = λ past rows is.
    subst (λ (found : Result Chosen Missing). IsErrAnd found (λ missing. string_bytes c.in_ok-line.line ≡ missing_line c.args.court.now c.args.labels.now.cases c.args.asked.now missing)) (sym is) c.in_ok-line.ensures
