use Rattle.std.proofs.Common.{◌≡◌, IfOk, rules}
use Rattle.hearing_slots.specs.Calendar.{without_motion}
use Rattle.hearing_slots.proofs.Holdings.{held_without}
use Rattle.hearing_slots.proofs.shared_calendar.few_without.Goals as goal

pub returns-clause-holds : goal.returns-clause-holds
returns-clause-holds c =
    let value : IfOk c.few.result (λ new. new ≡ without_motion c.args.case c.args.motion c.args.agenda.now) = search rules in
    held_without c.args.case c.args.motion c.args.agenda.now c.few.result value
