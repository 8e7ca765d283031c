use Rattle.std.proofs.Common.{◌∙◌, Option, ap, sym}
use Rattle.std.proofs.lemmas.Result.{IfOk-weaker}
use Rattle.case_numbers.specs.Words.{NameView}
use Rattle.row_forms.specs.declared.line.line.Line.{Line}
use Rattle.desk_register.specs.Words.{within}
use Rattle.desk_warnings.specs.Rows.{against_said, said_at}
use Rattle.desk_warnings.proofs.RowLemmas.{against_passed, against_plain}
use Rattle.desk_warnings.proofs.register.CarefulRegister.against_row.Goals as goal

pub returns-then-is_passed : goal.returns-then-is_passed
returns-then-is_passed c = λ kept stands.
    c.new.ensures.bytes ∙ against_passed c.args.standing.now c.args.held_back.now kept c.args.row.now (sym c.in_ok-is_passed.ensures ∙ c.if-is_passed.true)

pub returns : goal.returns
returns c = λ kept stands.
    let under = c.args.standing.now in
    let held = c.args.held_back.now in
    let row = c.args.row.now in
    IfOk-weaker c.against_said.result _ _
    (λ text is. is
    ∙ ap (λ (l : Line). against_said under held kept c.in_ok-said.name (within kept l)) (c.in_ok-said.ensures.said kept stands)
    ∙ ap (λ (n : Option NameView). against_said under held kept n (said_at under kept row)) (c.in_ok-said.ensures.name kept stands)
    ∙ against_plain under held kept row (sym c.in_ok-is_passed.ensures ∙ c.if-is_passed.false))
    (c.against_said.ensures kept stands)
