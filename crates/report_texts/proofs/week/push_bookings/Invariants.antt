use Rattle.std.proofs.Common.{◌≡◌, ◌++◌, drop, string_bytes}
use Rattle.std.specs.List.{flat_map}
use Rattle.report_texts.specs.Week.{booked_lines}
use Rattle.report_texts.proofs.week.push_bookings.Given as goal

-- the lines so far, and those that are left, are all
abbrev pub invariant-loop-booking : goal.invariant-loop-booking
invariant-loop-booking l = string_bytes l.text ++ flat_map (booked_lines l.court l.labels) (drop l.booking-index l.bookings) ≡ string_bytes l.fn.text ++ flat_map (booked_lines l.court l.labels) l.bookings
