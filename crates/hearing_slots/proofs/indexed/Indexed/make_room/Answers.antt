use Rattle.std.proofs.Common.{◌∙◌, List, ap, sym}
use Rattle.std.specs.List.{find}
use Rattle.hearing_slots.specs.declared.booking.Booking.{Booking}
use Rattle.hearing_slots.specs.Booking.{is_of}
use Rattle.hearing_slots.proofs.indexed.Indexed.make_room.Goals as goal

pub invariant_of-self-2 : goal.invariant_of-self-2
invariant_of-self-2 c = (
  c.make_room.ensures.calendar,
  record { exact = λ case motion. c.reserve.ensures.entries.2 (case, motion) ∙ c.self.invariant.1.exact case motion ∙ ap (λ (bs : List Booking). find (is_of case motion) bs) (sym c.make_room.ensures.value) },
)
