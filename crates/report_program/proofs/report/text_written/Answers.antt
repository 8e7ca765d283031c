use Rattle.std.proofs.Common.{Result, subst, sym}
use Rattle.std.specs.Prelude.{IsOkAnd}
use Rattle.report_program.specs.declared.chosen.Chosen.{Chosen}
use Rattle.report_program.specs.declared.chosen.Missing.{Missing}
use Rattle.report_program.specs.Calendar.{IsTextOf}
use Rattle.report_program.proofs.report.text_written.Goals as goal

pub returns : goal.returns
returns c = λ is.
    subst (λ (found : Result Chosen Missing). IsOkAnd found (λ chosen. IsTextOf c.args.court.now c.args.labels.now c.args.past.now c.args.rows.now chosen c.in_ok-text.text.items)) (sym is) c.in_ok-text.ensures
