use Rattle.std.proofs.Common.{◌≡◌, ◌++◌, drop, string_bytes}
use Rattle.std.specs.List.{flat_map}
use Rattle.office_texts.specs.Named.Named.{named_booking}
use Rattle.office_texts.proofs.named.bookings.push_bookings.Given as goal

-- the lines so far, and those of the bookings that are left, are all the lines
abbrev pub invariant-loop-booking : goal.invariant-loop-booking
invariant-loop-booking l =
    string_bytes l.text ++ flat_map (named_booking l.court l.cases.named) (drop l.booking-index l.bookings) ≡ string_bytes l.fn.text ++ flat_map (named_booking l.court l.cases.named) l.bookings
