use Rattle.std.proofs.Common.{codes}
use Rattle.report_json.specs.Motions.{heard_fields, hearing_value, notice_days_of}
use Rattle.report_json.specs.Times.{day_value}
use Rattle.report_json.specs.Values.{amount, field, or_null}
use Rattle.report_json.proofs.TokenLemmas.{four_fields}
use Rattle.report_json.proofs.motions.push_heard.Goals as goal

pub returns : goal.returns
unfolding heard_fields
returns c =
    let m = c.args.motion.now in
    let all =
    four_fields (field (codes "number") (amount m.number)) (field (codes "served") (day_value m.served)) (field (codes "notice_days") (or_null amount (notice_days_of m.need)))
    (field (codes "hearing") (or_null (hearing_value c.args.court.now) m.hearing)) c.args.out.now in
    rw (← all, ← c.in_ok-field.ensures, ← c.in_ok-field-2.ensures, ← c.in_ok-field-3.ensures) c.push_hearing_if_set.ensures
