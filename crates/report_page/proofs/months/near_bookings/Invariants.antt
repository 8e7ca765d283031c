use Rattle.std.proofs.Common.{◌≡◌, filter, take}
use Rattle.report_page.specs.Months.{is_near}
use Rattle.report_page.proofs.months.near_bookings.Given as goal

-- the list has those of the bookings so far that are near
abbrev pub invariant-loop-booking : goal.invariant-loop-booking
invariant-loop-booking l = l.list.items ≡ filter (is_near l.first) (take l.booking-index l.bookings)
