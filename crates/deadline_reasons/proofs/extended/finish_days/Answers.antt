use Rattle.std.proofs.Common.{subst}
use Rattle.rule6.specs.declared.timeliness.Shown.{Shown}
use Rattle.std.specs.Prelude.{IfOk}
use Rattle.deadline_reasons.specs.Inside.Leading.{LeadsOn}
use Rattle.deadline_reasons.specs.Standing.{Ended}
use Rattle.deadline_reasons.proofs.ExtensionLemmas.{end_with_day}
use Rattle.deadline_reasons.proofs.extended.finish_days.Goals as goal

pub returns : goal.returns
returns c =
    let days = c.args.days.now in
    let clock = c.args.clock.now in
    let row = c.args.row.now in
    subst (λ s. IfOk c.finish.result (λ _. (shown : Shown) × LeadsOn days clock row c.args.reasons.now.items c.finish.new.reasons.items s (Ended shown))) (end_with_day c.args.last c.on_day.result row.grants c.on_day.ensures) c.finish.ensures
