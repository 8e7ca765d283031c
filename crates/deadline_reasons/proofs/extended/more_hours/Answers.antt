use Rattle.std.proofs.Common.{◌∷◌, refl, sym, subst}
use Rattle.court_clock.specs.declared.direction.Direction.TheVariants.{After}
use Rattle.rule_periods.specs.declared.grant.Grant.TheVariants.{ByHours}
use Rattle.rule_periods.specs.Words.{is_in_hours}
use Rattle.deadline_reasons.specs.Derivation.{Lead}
use Rattle.deadline_reasons.specs.Inside.Leading.{with_end}
use Rattle.deadline_reasons.specs.Standing.{Unstarted, CountingHours, RunsUntil}
use Rattle.deadline_reasons.proofs.ExtensionLemmas.{end_with_instant, last_instant_is, no_last_instant}
use Rattle.deadline_reasons.proofs.extended.more_hours.Goals as goal

pub returns-in_default : goal.returns-in_default
returns-in_default c = λ grants.
    let row = c.args.row.now in
    c.not_extended.ensures c.args.days.now c.args.clock.now row c.args.end grants (no_last_instant (is_in_hours row.period) c.args.end c.args.h c.in_default.ensures)

pub returns : goal.returns
returns c = λ grants start.
    let days = c.args.days.now in
    let clock = c.args.clock.now in
    let row = c.args.row.now in
    let instant = c.in-Some.instant in
    let h = c.args.h in
    let from = last_instant_is (is_in_hours row.period) c.args.end instant c.in-Some.ensures in
    let here = subst (λ e. Lead days clock row Unstarted c.args.reasons.now.items (with_end e (ByHours h ∷ grants))) from.0 start in
    let extended = c.in_ok-push.ensures.leads days clock row (RunsUntil instant (ByHours h ∷ grants)) (CountingHours instant h After grants) here (refl, from.1, refl) in
    let counted = c.in_ok-counted.ensures row grants extended in
    subst (λ s. Lead days clock row Unstarted c.count.new.reasons.items s) (sym (end_with_instant c.in_ok-counted.counted c.at_instant.result grants c.at_instant.ensures)) counted
