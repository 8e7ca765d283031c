use Rattle.std.proofs.Common.{◌≡◌, ◌++◌, drop}
use Rattle.hearing_slots.specs.declared.booking.Booking.{Booking}
use Rattle.report_page.specs.Months.{month_if_new, months_part, no_row}
use Rattle.report_page.specs.Tables.{rows_by_day}
use Rattle.report_page.proofs.months.push_each_month.Given as goal

-- the months so far, and those of the bookings that are left, are all
abbrev pub invariant-loop-booking : goal.invariant-loop-booking
invariant-loop-booking l = l.page ++ rows_by_day (λ (b : Booking). b.day) (month_if_new l.court l.labels l.calendar) no_row l.before (drop l.booking-index l.bookings) ≡ l.fn.page ++ months_part l.court l.labels l.calendar l.bookings
