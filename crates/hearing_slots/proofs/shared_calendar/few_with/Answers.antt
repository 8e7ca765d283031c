use Rattle.std.proofs.Common.{◌≡◌, IfOk, rules}
use Rattle.hearing_slots.specs.Calendar.{with_booking}
use Rattle.hearing_slots.proofs.Holdings.{held_with}
use Rattle.hearing_slots.proofs.shared_calendar.few_with.Goals as goal

pub returns-clause-holds : goal.returns-clause-holds
returns-clause-holds c =
    let value : IfOk c.few.result (λ new. new ≡ with_booking c.args.booking c.args.agenda.now) = search rules in
    held_with c.args.booking c.args.agenda.now c.few.result value
