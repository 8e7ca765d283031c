use Rattle.std.proofs.Common.{◌≡◌, ◌∙◌, Option, Result, Vec, ℕ, subst, sym}
use Rattle.std.specs.Prelude.{IfOk, is_some}
use Rattle.std.specs.declared.alloc.Global.{Global}
use Rattle.program_runs.specs.declared.report.Finding.{Finding}
use Rattle.report_program.specs.declared.chosen.Chosen.{Chosen}
use Rattle.report_program.specs.declared.chosen.Missing.{Missing}
use Rattle.report_program.specs.Calendar.{rests_on_docket}
use Rattle.report_program.proofs.taken.answer_in.Goals as goal

pub returns-in-Ok-clause-found : goal.returns-in-Ok-clause-found
returns-in-Ok-clause-found c = λ past rows holds. c.text_found.ensures.found past rows holds (sym (c.in_ok-found.ensures rows holds) ∙ c.in-Ok.is)

pub returns-in-Ok-clause-some : goal.returns-in-Ok-clause-some
returns-in-Ok-clause-some c = λ rows holds.
    subst (λ (r : Result Chosen Missing). IfOk c.text_found.result (λ (found : Option (Finding (Vec ℕ Global))). is_some found ≡ rests_on_docket r)) (sym (sym (c.in_ok-found.ensures rows holds) ∙ c.in-Ok.is)) c.text_found.ensures.some

pub returns-in-Err-clause-found : goal.returns-in-Err-clause-found
returns-in-Err-clause-found c = λ past rows holds. c.line_found.ensures.found past rows (sym (c.in_ok-found.ensures rows holds) ∙ c.in-Err.is)

pub returns-in-Err-clause-some : goal.returns-in-Err-clause-some
returns-in-Err-clause-some c = λ rows holds.
    subst (λ (r : Result Chosen Missing). IfOk c.line_found.result (λ (found : Option (Finding (Vec ℕ Global))). is_some found ≡ rests_on_docket r)) (sym (sym (c.in_ok-found.ensures rows holds) ∙ c.in-Err.is)) c.line_found.ensures.some
