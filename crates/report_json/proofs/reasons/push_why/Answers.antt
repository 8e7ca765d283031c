use Rattle.std.proofs.Common.{codes, [], ◌∷◌}
use Rattle.report_json.specs.Deadlines.{shown_value}
use Rattle.report_json.specs.Reasons.{reasons_field}
use Rattle.report_json.specs.Values.{field, or_null}
use Rattle.report_json.proofs.TokenLemmas.{more_fields}
use Rattle.report_json.proofs.reasons.push_why.Goals as goal

pub returns : goal.returns
returns c =
    let clock = c.args.court.now.clock in
    let e = c.args.explained.now in
    rw (← more_fields (field (codes "other_reading") (or_null (shown_value clock.zone) e.other) ∷ []) (reasons_field clock e ∷ []) c.args.out.now, ← c.in_ok-field.ensures) c.push_reasons.ensures
