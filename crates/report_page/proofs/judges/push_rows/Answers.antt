use Rattle.std.proofs.Common.{arith}
use Rattle.hearing_slots.specs.declared.booking.Booking.{Booking}
use Rattle.report_page.specs.Judges.{week_row_if_new, booking_row}
use Rattle.report_page.proofs.RowLemmas.{all_rows, rows_more}
use Rattle.report_page.proofs.judges.push_rows.Goals as goal

pub loop-booking-preserved : goal.loop-booking-preserved
loop-booking-preserved c =
    rows_more (λ (b : Booking). b.day) week_row_if_new (booking_row c.args.court.now c.args.labels.now) c.loop-booking.before c.args.bookings.now c.loop-booking.booking-index c.booking-item.result _ _ _ _
    c.loop-booking-test.true c.booking-item.is c.in_ok-push_week_if_new.ensures c.in_ok-push_row.ensures c.loop-booking.invariant

pub returns : goal.returns
returns c =
    all_rows (λ (b : Booking). b.day) week_row_if_new (booking_row c.args.court.now c.args.labels.now) c.loop-booking.before c.args.bookings.now c.loop-booking.booking-index _ _
    (omega (arith, c.loop-booking-test.false)) c.loop-booking.invariant
