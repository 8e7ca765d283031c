use Rattle.std.proofs.Common.{◌≡◌, map}
use Rattle.desk_numbers.specs.Numbered.{numbered_booking}
use Rattle.desk_numbers.proofs.MapLemmas.{changed_up_to}
use Rattle.desk_numbers.proofs.moved.MovedNumbers.number_each.Given as goal

-- the first have their numbers, and the others are as they were
abbrev pub invariant-list : goal.invariant-list
invariant-list l = changed_up_to (numbered_booking l.self) l.bookings l.booking-index ≡ map (numbered_booking l.self) l.initial.bookings
