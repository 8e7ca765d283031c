use Rattle.std.proofs.Common.{◌≡◌, ◌∙◌, List, IfOk, None, ap, subst, sym}
use Rattle.std.specs.Arc.{arc_value}
use Rattle.hearing_slots.specs.declared.booking.Booking.{Booking}
use Rattle.hearing_slots.specs.Inside.DayNotes.{booked_day}
use Rattle.hearing_slots.proofs.Holdings.{held_without}
use Rattle.hearing_slots.proofs.BlockDays.{without_motion-not_booked}
use Rattle.hearing_slots.proofs.shared_calendar.SharedCalendar.without.Goals as goal

-- where the motion has no booking, the calendar is the same
pub returns-in-None-clause-value : goal.returns-in-None-clause-value
returns-in-None-clause-value c =
    let whole : arc_value c.in-Many.blocks ≡ c.args.self.now = rw c.in-Many.is at c.self.view_is in
    let none : booked_day c.args.case c.args.motion c.args.self.now ≡ None = ap (booked_day c.args.case c.args.motion) (sym (c.deref-in-Many.ensures ∙ whole)) ∙ sym c.day_of.ensures ∙ c.in-None.is in
    subst (λ (bs : List Booking). IfOk c.copy.result (λ (x : List Booking). x ≡ bs)) (sym (without_motion-not_booked c.args.case c.args.motion c.args.self.now none)) c.copy.ensures.value

pub returns-in-None-clause-holds : goal.returns-in-None-clause-holds
returns-in-None-clause-holds c = held_without c.args.case c.args.motion c.args.self.now c.copy.result (returns-in-None-clause-value c)
