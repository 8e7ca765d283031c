use Rattle.std.proofs.Common.{true, false, refl, subst}
use Rattle.court_clock.specs.declared.direction.Direction.TheVariants.{After}
use Rattle.deadline_reasons.specs.Derivation.{Lead}
use Rattle.deadline_reasons.specs.Inside.Leading.{with_day}
use Rattle.deadline_reasons.specs.Standing.{ToCome, Unstarted, Counting, Runs}
use Rattle.deadline_reasons.proofs.DerivationLemmas.{if_ok}
use Rattle.deadline_reasons.proofs.by_days.three_more.Goals as goal

pub returns : goal.returns
returns c = λ clock.
    let days = c.args.days.now in
    let row = c.args.row.now in
    let day = c.in-Some-expiry.day in
    let rest : ToCome = record { three = false; grants = row.grants } in
    if_ok c.count.result _ _ (λ last more start.
    let served = subst (λ b. Lead days clock row Unstarted c.args.reasons.now.items (with_day c.args.expiry (record { three = b; grants = row.grants }))) c.in-Some.ensures.some.1 start in
    let here = subst (λ l. Lead days clock row Unstarted c.args.reasons.now.items (with_day l (record { three = true; grants = row.grants }))) c.in-Some-expiry.is served in
    more (c.in_ok-push.ensures.leads days clock row (Runs day (record { three = true; grants = row.grants })) (Counting day 3 After rest) here (c.in-Some.ensures.some.0, refl))) (c.count.ensures clock row rest)
