use Rattle.std.proofs.Common.{◌∙◌, Some, ap, sym}
use Rattle.docket_rows.specs.Words.{parts_of}
use Rattle.docket_core.specs.Words.{parts_held}
use Rattle.docket_laws.proofs.CallerLemmas.{hold_same}
use Rattle.desk_register.proofs.shifts.days_before.Goals as goal

pub returns-in_ok-copy : goal.returns-in_ok-copy
unfolding parts_of
returns-in_ok-copy c = λ docketed stands.
    rw (sym c.changes_days.ensures ∙ c.if-changes_days.true) (ap Some (c.in_ok-copy.ensures ∙ c.days.ensures ∙ (hold_same (parts_held c.args.register.now.docket) (parts_of docketed) stands).days))
