use Rattle.std.proofs.Common.{◌≡◌, ◌++◌, None, drop}
use Rattle.report_page.specs.Judges.{booking_rows}
use Rattle.report_page.proofs.judges.push_rows.Given as goal

-- the rows so far, and those of the bookings that are left, are all
abbrev pub invariant-loop-booking : goal.invariant-loop-booking
invariant-loop-booking l = l.page ++ booking_rows l.court l.labels l.before (drop l.booking-index l.bookings) ≡ l.fn.page ++ booking_rows l.court l.labels None l.bookings
