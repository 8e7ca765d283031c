use Rattle.std.proofs.Common.{◌∙◌, List, Some, ap, sym, subst, arith}
use Rattle.hearing_slots.specs.declared.booking.Booking.{Booking}
use Rattle.hearing_slots.specs.Calendar.{IsFree}
use Rattle.hearing_slots.specs.Motions.{NotesBookings}
use Rattle.hearing_slots.specs.Timetable.{TimetableView}
use Rattle.hearing_slots.proofs.MotionLemmas.{noted_with}
use Rattle.hearing_slots.proofs.indexed.Indexed.put.Goals as goal

pub put-requires-clause-found : goal.put-requires-clause-found
put-requires-clause-found c = c.forget-older.ensures.gone ∙ c.self.invariant.1.exact c.args.booking.case c.args.booking.motion

pub put-requires-clause-free : goal.put-requires-clause-free
put-requires-clause-free c =
    let b = c.args.booking in
    let same = ap (λ (t : TimetableView). t.bookings) c.self.view_is in
    subst (λ (bs : List Booking). IsFree bs b.day b.first b.count (Some (b.case, b.motion))) (sym same) c.requires.free

pub put-requires-clause-room : goal.put-requires-clause-room
put-requires-clause-room c = omega (arith, c.requires.room, ap (λ (t : TimetableView). t.room) c.self.view_is)

pub note-requires : goal.note-requires
note-requires c = omega (arith, c.requires.room, ap (λ (t : TimetableView). t.room) c.self.view_is, c.forget-older.ensures.room)

pub invariant_of-self : goal.invariant_of-self
invariant_of-self c =
    let all = c.self.inside.timetable.bookings in (
      c.put.ensures.calendar,
      subst (λ (bs : List Booking). NotesBookings bs c.note.new.motions) (sym c.put.ensures.value) (noted_with c.args.booking all c.self.inside.motions c.forget-older.new.motions c.note.new.motions c.self.invariant.0 c.self.invariant.1 c.forget-older.ensures.rest c.note.ensures.rest),
    )
