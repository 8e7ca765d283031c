use Rattle.std.proofs.Common.{◌≡◌, ◌∙◌, ap}
use Rattle.hearing_slots.specs.Calendar.{with_booking, without_motion, in_place}
use Rattle.hearing_slots.proofs.Holdings.{apart_from_others, of_others}
use Rattle.hearing_slots.proofs.agenda.Agenda.with.Goals as goal

pub place_in-requires-clause-free : goal.place_in-requires-clause-free
place_in-requires-clause-free c =
    let b = c.args.booking in
    rw (c.reserve.ensures.items, c.take_out_of.ensures.items, c.in_ok-bookings.ensures.value) (apart_from_others b c.args.self.now c.requires.free)

pub place_in-requires-clause-only : goal.place_in-requires-clause-only
place_in-requires-clause-only c =
    let b = c.args.booking in
    rw (c.reserve.ensures.items, c.take_out_of.ensures.items, c.in_ok-bookings.ensures.value) (of_others b.case b.motion c.args.self.now)

pub returns : goal.returns
unfolding with_booking
returns c =
    let b = c.args.booking in
    let others : c.reserve.new.self.items ≡ without_motion b.case b.motion c.args.self.now = c.reserve.ensures.items ∙ c.take_out_of.ensures.items ∙ ap (without_motion b.case b.motion) c.in_ok-bookings.ensures.value in
    c.place_in.ensures.items ∙ ap (in_place b) others
