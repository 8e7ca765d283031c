use Rattle.std.proofs.Common.{◌∙◌, sym}
use Rattle.hearing_slots.specs.Booking.{is_of}
use Rattle.hearing_slots.proofs.Finds.{filter_absent}
use Rattle.hearing_slots.proofs.Removals.{found_by_own, without_own}
use Rattle.hearing_slots.proofs.timetable.Timetable.remove.Goals as goal

pub returns-in_default-clause-value : goal.returns-in_default-clause-value
returns-in_default-clause-value c = sym (filter_absent (is_of c.args.case c.args.motion) c.args.self.now.bookings (sym c.requires ∙ c.in_default.is))

pub take-requires : goal.take-requires
take-requires c = found_by_own c.args.case c.args.motion c.args.self.now.bookings c.in-Some.gone (sym c.requires ∙ c.in-Some.is)

pub returns-clause-value : goal.returns-clause-value
returns-clause-value c = c.take.ensures.value ∙ without_own c.args.case c.args.motion c.args.self.now.bookings c.in-Some.gone (sym c.requires ∙ c.in-Some.is)
