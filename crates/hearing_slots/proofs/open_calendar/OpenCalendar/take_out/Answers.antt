use Rattle.std.proofs.Common.{◌≡◌, rules, subst, sym}
use Rattle.hearing_slots.specs.Calendar.{without_motion, HoldsWithout}
use Rattle.hearing_slots.proofs.Holdings.{without_motion-holds}
use Rattle.hearing_slots.proofs.open_calendar.OpenCalendar.take_out.Goals as goal

pub returns-clause-holds : goal.returns-clause-holds
returns-clause-holds c =
    let value : c.own.result ≡ without_motion c.args.case c.args.motion c.args.self = search rules in
    subst (HoldsWithout c.args.case c.args.motion c.args.self) (sym value) (without_motion-holds c.args.case c.args.motion c.args.self)
