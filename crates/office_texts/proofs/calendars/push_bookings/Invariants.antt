use Rattle.std.proofs.Common.{◌≡◌, ◌++◌, drop, string_bytes}
use Rattle.office_texts.specs.Calendars.{booking_lines}
use Rattle.office_texts.proofs.calendars.push_bookings.Given as goal

-- the lines so far, and those of the bookings that are left, are all the lines
abbrev pub invariant-loop-booking : goal.invariant-loop-booking
invariant-loop-booking l = string_bytes l.text ++ booking_lines l.court (drop l.booking-index l.bookings) ≡ string_bytes l.fn.text ++ booking_lines l.court l.bookings
