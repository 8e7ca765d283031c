use Rattle.std.proofs.Common.{false, []}
use Rattle.rule6.specs.declared.timeliness.Shown.TheVariants as shown
use Rattle.deadline_reasons.specs.Standing.{ToCome, Runs, Ended}
use Rattle.deadline_reasons.proofs.DerivationLemmas.{closing_follows}
use Rattle.deadline_reasons.proofs.access.close_on.Goals as goal

pub returns-in_default : goal.returns-in_default
returns-in_default c =
    let days = c.args.days.now in
    let clock = c.args.clock.now in
    let row = c.args.row.now in
    let day = c.args.last in
    let rest : ToCome = record { three = false; grants = [] } in
    let act = c.act_due.ensures in (
      shown.Last day c.act_due.result,
      λ start.
          c.in_ok-push.ensures.leads days clock row (Runs day rest) (Ended (shown.Last day c.act_due.result)) start (closing_follows days clock row day c.act_due.result c.closing.result _ act c.in_default.ensures.none c.closing.ensures),
    )
