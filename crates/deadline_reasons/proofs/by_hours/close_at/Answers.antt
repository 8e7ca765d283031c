use Rattle.std.proofs.Common.{[], refl}
use Rattle.rule6.specs.declared.timeliness.Shown.TheVariants as shown
use Rattle.deadline_reasons.specs.Standing.{RunsUntil, Ended}
use Rattle.deadline_reasons.proofs.by_hours.close_at.Goals as goal

pub returns-in_default : goal.returns-in_default
returns-in_default c =
    let days = c.args.days.now in
    let clock = c.args.clock.now in
    let row = c.args.row.now in
    let end = c.args.end in (
      shown.Until end,
      λ start.
          c.in_ok-push.ensures.leads days clock row (RunsUntil end []) (Ended (shown.Until end)) start (c.in_default.ensures.none, refl, refl),
    )
