use Rattle.std.proofs.Common.{◌∙◌, Option, ap}
use Rattle.std.proofs.lemmas.Result.{IfOk-weaker}
use Rattle.case_numbers.specs.Words.{NameView}
use Rattle.row_forms.specs.declared.line.line.Line.{Line}
use Rattle.desk_register.specs.Words.{within}
use Rattle.desk_warnings.specs.Rows.{said_at, warnings_at, warnings_said}
use Rattle.desk_warnings.proofs.register.CarefulRegister.warnings_at.Goals as goal

pub returns : goal.returns
unfolding warnings_at
returns c = λ kept stands.
    IfOk-weaker c.warnings_said.result _ _
    (λ text is. is
    ∙ ap (λ (l : Line). warnings_said c.args.standing.now c.args.held_back.now kept c.in_ok-said.name (within kept l)) (c.in_ok-said.ensures.said kept stands)
    ∙ ap (λ (n : Option NameView). warnings_said c.args.standing.now c.args.held_back.now kept n (said_at c.args.standing.now kept c.args.row.now)) (c.in_ok-said.ensures.name kept stands))
    (c.warnings_said.ensures kept stands)
