use Rattle.std.proofs.Common.{◌≡◌, ◌∙◌, true, false, ap, sym}
use Rattle.std.proofs.lemmas.Result.{IfOk-weaker}
use Rattle.row_forms.specs.Words.{names_of}
use Rattle.desk_register.specs.CaseLines.{lacks_field}
use Rattle.desk_register.specs.Subjects.{named_by}
use Rattle.desk_register.proofs.NextLineLemmas.{fifth_whole, lacking}
use Rattle.desk_register.proofs.subject.named_fifth.Goals as goal

pub returns-then-lacks_field : goal.returns-then-lacks_field
returns-then-lacks_field c = λ text said fields.
    let names = names_of c.args.court.now in
    let lacks : lacks_field 5 c.args.said.now ≡ true = sym c.lacks_field.ensures ∙ c.if-lacks_field.true in
    IfOk-weaker c.named_by.result _ _
    (λ named is. is ∙ ap (named_by names 5) (fields 5 (lacking 5 c.args.said.now lacks)) ∙ sym (fifth_whole names text true (ap (lacks_field 5) (sym said) ∙ lacks)))
    c.named_by.ensures

pub returns-else-lacks_field : goal.returns-else-lacks_field
returns-else-lacks_field c = λ text said fields. sym (fifth_whole (names_of c.args.court.now) text false (ap (lacks_field 5) (sym said) ∙ sym c.lacks_field.ensures ∙ c.if-lacks_field.false))
