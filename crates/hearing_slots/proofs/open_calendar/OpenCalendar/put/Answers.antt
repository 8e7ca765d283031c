use Rattle.std.proofs.Common.{◌≡◌, rules, subst, sym}
use Rattle.hearing_slots.specs.Calendar.{with_booking, HoldsWith}
use Rattle.hearing_slots.proofs.Holdings.{with_booking-holds}
use Rattle.hearing_slots.proofs.open_calendar.OpenCalendar.put.Goals as goal

pub returns-clause-holds : goal.returns-clause-holds
returns-clause-holds c =
    let value : c.own.result ≡ with_booking c.args.booking c.args.self = search rules in
    subst (HoldsWith c.args.booking c.args.self) (sym value) (with_booking-holds c.args.booking c.args.self)
