use Rattle.std.proofs.Common.{◌∙◌, ap}
use Rattle.hearing_slots.specs.Calendar.{with_booking, in_place}
use Rattle.hearing_slots.proofs.Holdings.{apart_from_others, of_others}
use Rattle.hearing_slots.proofs.timetable.Timetable.put.Goals as goal

pub place-requires-clause-free : goal.place-requires-clause-free
place-requires-clause-free c = rw c.remove.ensures.value (apart_from_others c.args.booking c.args.self.now.bookings c.requires.free)

pub place-requires-clause-only : goal.place-requires-clause-only
place-requires-clause-only c = rw c.remove.ensures.value (of_others c.args.booking.case c.args.booking.motion c.args.self.now.bookings)

pub returns-clause-value : goal.returns-clause-value
unfolding with_booking
returns-clause-value c = c.place.ensures.value ∙ ap (in_place c.args.booking) c.remove.ensures.value
