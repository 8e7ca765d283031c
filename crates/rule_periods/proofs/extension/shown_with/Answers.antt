use Rattle.std.proofs.Common.{sym, ◌∙◌}
use Rattle.rule_periods.proofs.DeadlineLemmas.{shown_of-push}
use Rattle.rule_periods.proofs.extension.shown_with.Goals as goal

pub returns : goal.returns
returns c =
    let law = shown_of-push c.args.days.now c.args.clock.now c.args.row.now c.args.grant in
    c.shown_after.ensures
    ∙ rw (c.granted-end.ensures, c.extended-so_far.ensures, c.is_certain-certain.ensures, c.act_due-act.ensures, c.is_in_hours-hours.ensures, c.period.ensures.value) (sym law)
