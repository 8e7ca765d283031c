use Rattle.std.proofs.Common.{false, ◌∷◌}
use Rattle.rule_periods.specs.declared.grant.Grant.TheVariants.{Reset}
use Rattle.deadline_reasons.specs.Inside.Leading.{with_end}
use Rattle.deadline_reasons.specs.Standing.{Runs}
use Rattle.deadline_reasons.proofs.ExtensionLemmas.{day_follows}
use Rattle.deadline_reasons.proofs.extended.to_day.Goals as goal

pub returns : goal.returns
returns c = λ days clock row end grants start.
    c.in_ok-push.ensures.leads days clock row (with_end end (Reset c.args.day ∷ grants)) (Runs c.args.day (record { three = false; grants = grants })) start (day_follows days clock row end c.args.day grants)
