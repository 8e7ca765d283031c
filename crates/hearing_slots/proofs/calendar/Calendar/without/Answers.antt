use Rattle.std.proofs.Common.{◌≡◌, List, subst}
use Rattle.hearing_slots.specs.declared.booking.Booking.{Booking}
use Rattle.hearing_slots.specs.Calendar.{HoldsWithout}
use Rattle.hearing_slots.proofs.calendar.Calendar.without.Goals as goal

pub returns-clause-holds : goal.returns-clause-holds
returns-clause-holds c =
    let same : c.in_ok-opened.opened ≡ c.args.self.now = c.in_ok-opened.ensures in
    subst (λ (old : List Booking). HoldsWithout c.args.case c.args.motion old c.take_out.result) same c.take_out.ensures.holds
