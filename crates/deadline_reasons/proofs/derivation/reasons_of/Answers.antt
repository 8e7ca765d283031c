use Rattle.std.proofs.Common.{subst, rules}
use Rattle.deadline_reasons.specs.Derivation.{Lead}
use Rattle.deadline_reasons.specs.Standing.{Unstarted, Ended}
use Rattle.deadline_reasons.proofs.DerivationLemmas.{derivation_law, lead_nothing}
use Rattle.deadline_reasons.proofs.derivation.reasons_of.Goals as goal

pub returns : goal.returns
returns c =
    let days = c.args.days.now in
    let clock = c.args.clock.now in
    let row = c.args.row.now in
    let made = c.in_ok-push_all.ensures in
    let all = made.1 (lead_nothing days clock row Unstarted _ (search rules)) in
    subst (λ shown. Lead days clock row Unstarted c.push_all.new.reasons.items (Ended shown)) (derivation_law days clock row c.push_all.new.reasons.items made.0 all) all
