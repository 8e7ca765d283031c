use Rattle.std.proofs.Common.{◌≡◌, rules, subst, sym}
use Rattle.hearing_slots.specs.Calendar.{on_day, HoldsDay}
use Rattle.hearing_slots.proofs.Holdings.{on_day-holds}
use Rattle.hearing_slots.proofs.shared_calendar.SharedCalendar.on_day.Goals as goal

pub returns-clause-holds : goal.returns-clause-holds
returns-clause-holds c =
    let value : c.from_vec.result ≡ on_day c.args.day c.args.self.now = search rules in
    subst (HoldsDay c.args.day c.args.self.now) (sym value) (on_day-holds c.args.day c.args.self.now)
