use Rattle.std.proofs.Common.{false, ◌∷◌, refl, sym, subst}
use Rattle.court_clock.specs.declared.direction.Direction.TheVariants.{After}
use Rattle.rule_periods.specs.declared.grant.Grant.TheVariants.{ByDays}
use Rattle.rule_periods.specs.Words.{is_in_hours}
use Rattle.deadline_reasons.specs.Derivation.{Lead}
use Rattle.deadline_reasons.specs.Inside.Leading.{with_end}
use Rattle.deadline_reasons.specs.Standing.{ToCome, Unstarted, Counting, Runs}
use Rattle.deadline_reasons.proofs.ExtensionLemmas.{end_with_day, last_day_is, no_last_day}
use Rattle.deadline_reasons.proofs.extended.more_days.Goals as goal

pub returns-in_default : goal.returns-in_default
returns-in_default c = λ clock grants.
    let row = c.args.row.now in
    c.not_extended.ensures c.args.days.now clock row c.args.end grants (no_last_day (is_in_hours row.period) c.args.end c.args.n c.in_default.ensures)

pub returns : goal.returns
returns c = λ clock grants start.
    let days = c.args.days.now in
    let row = c.args.row.now in
    let day = c.in-Some.day in
    let n = c.args.n in
    let rest : ToCome = record { three = false; grants = grants } in
    let from = last_day_is (is_in_hours row.period) c.args.end day c.in-Some.ensures in
    let here = subst (λ e. Lead days clock row Unstarted c.args.reasons.now.items (with_end e (ByDays n ∷ grants))) from.0 start in
    let extended = c.in_ok-push.ensures.leads days clock row (Runs day (record { three = false; grants = ByDays n ∷ grants })) (Counting day n After rest) here (refl, from.1, refl) in
    let counted = c.in_ok-counted.ensures clock row rest extended in
    subst (λ s. Lead days clock row Unstarted c.count.new.reasons.items s) (sym (end_with_day c.in_ok-counted.counted c.on_day.result grants c.on_day.ensures)) counted
