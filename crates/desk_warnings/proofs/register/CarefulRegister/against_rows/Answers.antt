use Rattle.std.proofs.Common.{◌∙◌, Bool, ap}
use Rattle.std.specs.Prelude.{nat_lt}
use Rattle.std.specs.List.{flat_map}
use Rattle.std.proofs.lemmas.Result.{IfOk-weaker}
use Rattle.desk_warnings.specs.Inside.Rows.{row_texts}
use Rattle.desk_warnings.specs.Rows.{against_one}
use Rattle.desk_warnings.proofs.RowLemmas.{as_many}
use Rattle.desk_warnings.proofs.register.CarefulRegister.against_rows.Goals as goal

pub returns : goal.returns
returns c = λ kept stands.
    IfOk-weaker c.against_each.result _ _
    (λ text is. is ∙ ap (λ (b : Bool). flat_map (against_one c.args.standing.now c.args.held_back.now kept b) (row_texts c.args.rows.now)) (c.are_several-several.ensures ∙ ap (nat_lt 1) (as_many c.args.rows.now)))
    (c.against_each.ensures kept stands)
