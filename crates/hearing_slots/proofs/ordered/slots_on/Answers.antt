use Rattle.std.specs.List.{All}
use Rattle.std.proofs.Common.{subst, sym, List}
use Rattle.std.proofs.lemmas.List.Elements.{All-filter}
use Rattle.hearing_slots.specs.declared.booking.Booking.{Booking}
use Rattle.hearing_slots.specs.Booking.{IsWithinDay, is_on}
use Rattle.hearing_slots.proofs.ordered.slots_on.Goals as goal

pub slots_of-requires : goal.slots_of-requires
slots_of-requires c = subst (λ (bs : List Booking). All IsWithinDay bs) (sym c.part_of_day.ensures) (All-filter (is_on c.args.day) IsWithinDay c.args.bookings.now c.requires.within_day)
