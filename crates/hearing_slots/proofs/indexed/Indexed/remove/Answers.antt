use Rattle.std.proofs.Common.{◌∙◌, List, sym, subst}
use Rattle.hearing_slots.specs.declared.booking.Booking.{Booking}
use Rattle.hearing_slots.specs.Calendar.{IsCalendar}
use Rattle.hearing_slots.specs.Motions.{NotesBookings}
use Rattle.hearing_slots.proofs.Holdings.{removal_keeps}
use Rattle.hearing_slots.proofs.MotionLemmas.{noted_without}
use Rattle.hearing_slots.proofs.indexed.Indexed.remove.Goals as goal

pub remove-requires : goal.remove-requires
remove-requires c = c.forget-gone.ensures.gone ∙ c.self.invariant.1.exact c.args.case c.args.motion

pub invariant_of-self : goal.invariant_of-self
invariant_of-self c =
    let all = c.self.inside.timetable.bookings in (
      subst IsCalendar (sym c.remove.ensures.value) (removal_keeps c.args.case c.args.motion all c.self.invariant.0),
      subst (λ (bs : List Booking). NotesBookings bs c.forget-gone.new.motions) (sym c.remove.ensures.value) (noted_without all c.self.inside.motions c.forget-gone.new.motions c.args.case c.args.motion c.self.invariant.1 c.forget-gone.ensures.rest),
    )

pub returns-clause-calendar : goal.returns-clause-calendar
returns-clause-calendar c = subst IsCalendar (sym c.remove.ensures.value) (removal_keeps c.args.case c.args.motion c.self.inside.timetable.bookings c.self.invariant.0)
