use Rattle.std.proofs.Common.{false, ◌∷◌, sym, ◌∙◌}
use Rattle.rule_periods.specs.declared.grant.Grant.TheVariants.{Until}
use Rattle.rule_periods.specs.Words.{is_in_hours}
use Rattle.deadline_reasons.specs.Inside.Leading.{with_end}
use Rattle.deadline_reasons.specs.Standing.{Runs}
use Rattle.deadline_reasons.proofs.ExtensionLemmas.{date_follows, no_date}
use Rattle.deadline_reasons.proofs.extended.until.Goals as goal

pub returns-then-in_hours : goal.returns-then-in_hours
returns-then-in_hours c = λ days clock end grants.
    let row = c.args.row.now in
    c.not_extended.ensures days clock row end grants (no_date (is_in_hours row.period) end c.args.day (sym c.in_hours.ensures ∙ c.if-in_hours.true))

pub returns : goal.returns
returns c = λ days clock end grants start.
    let row = c.args.row.now in
    let day = c.args.day in
    c.in_ok-push.ensures.leads days clock row (with_end end (Until day ∷ grants)) (Runs day (record { three = false; grants = grants })) start (date_follows days clock row end day grants (sym c.in_hours.ensures ∙ c.if-in_hours.false))
