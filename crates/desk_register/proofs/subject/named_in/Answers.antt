use Rattle.std.proofs.Common.{◌≡◌, ◌∙◌, true, false, ap, sym}
use Rattle.std.proofs.lemmas.Result.{IfOk-weaker}
use Rattle.row_forms.specs.Words.{names_of}
use Rattle.desk_register.specs.CaseLines.{lacks_field}
use Rattle.desk_register.specs.Subjects.{named_by}
use Rattle.desk_register.proofs.NextLineLemmas.{lacking, named_whole}
use Rattle.desk_register.proofs.subject.named_in.Goals as goal

pub returns-then-lacks_field : goal.returns-then-lacks_field
returns-then-lacks_field c = λ text said fields.
    let names = names_of c.args.court.now in
    let lacks : lacks_field 4 c.args.said.now ≡ true = sym c.lacks_field.ensures ∙ c.if-lacks_field.true in
    IfOk-weaker c.named_by.result _ _
    (λ named is. is ∙ ap (named_by names 4) (fields 4 (lacking 4 c.args.said.now lacks)) ∙ sym (named_whole names text true (ap (lacks_field 4) (sym said) ∙ lacks)))
    c.named_by.ensures

pub returns-else-lacks_field : goal.returns-else-lacks_field
returns-else-lacks_field c = λ text said fields.
    let names = names_of c.args.court.now in
    let has : lacks_field 4 c.args.said.now ≡ false = sym c.lacks_field.ensures ∙ c.if-lacks_field.false in
    IfOk-weaker c.named_fifth.result _ _
    (λ named is. is ∙ sym (named_whole names text false (ap (lacks_field 4) (sym said) ∙ has)))
    (c.named_fifth.ensures text said fields)
