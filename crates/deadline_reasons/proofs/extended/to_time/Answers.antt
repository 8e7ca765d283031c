use Rattle.std.proofs.Common.{◌∷◌}
use Rattle.rule_periods.specs.declared.grant.Grant.TheVariants.{ResetAt}
use Rattle.deadline_reasons.specs.Inside.Leading.{with_end}
use Rattle.deadline_reasons.specs.Standing.{RunsUntil}
use Rattle.deadline_reasons.proofs.ExtensionLemmas.{time_follows}
use Rattle.deadline_reasons.proofs.extended.to_time.Goals as goal

pub returns : goal.returns
returns c = λ days row end grants start.
    let clock = c.args.clock.now in
    let at = c.args.at in
    let instant = c.instant_at-instant.result in
    c.in_ok-push.ensures.leads days clock row (with_end end (ResetAt at ∷ grants)) (RunsUntil instant grants) start (time_follows days clock row end at instant grants c.instant_at-instant.ensures)
