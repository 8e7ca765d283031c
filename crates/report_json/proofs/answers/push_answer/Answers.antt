use Rattle.std.proofs.Common.{◌∷◌, [], codes}
use Rattle.report_json.specs.Answers.{answer_fields, kind}
use Rattle.report_json.specs.Times.{day_value}
use Rattle.report_json.specs.Values.{field, or_null}
use Rattle.report_json.proofs.TokenLemmas.{more_fields}
use Rattle.report_json.proofs.answers.push_answer.Goals as goal

pub returns-in_ok-push_kind-in-Ruled : goal.returns-in_ok-push_kind-in-Ruled
unfolding answer_fields
returns-in_ok-push_kind-in-Ruled c =
    let both = more_fields (kind (codes "ruled") ∷ []) (field (codes "hearing_cancelled") (or_null day_value c.in-Ruled.off) ∷ []) c.args.out.now in
    rw (c.in-Ruled.is, ← both, ← c.in_ok-push_kind-in-Ruled.ensures) c.field-in-Ruled.ensures
