use Rattle.std.proofs.Common.{append-nil, arith, sym}
use Rattle.hearing_slots.specs.declared.booking.Booking.{Booking}
use Rattle.report_page.specs.Months.{month_if_new, no_row}
use Rattle.report_page.proofs.RowLemmas.{all_rows, rows_more}
use Rattle.report_page.proofs.months.push_each_month.Goals as goal

pub loop-booking-preserved : goal.loop-booking-preserved
loop-booking-preserved c =
    rows_more (λ (b : Booking). b.day) (month_if_new c.args.court.now c.args.labels.now c.args.calendar.now) no_row c.loop-booking.before c.args.bookings.now c.loop-booking.booking-index c.booking-item.result _ _ _ _
    c.loop-booking-test.true c.booking-item.is c.in_ok-push_month_if_new.ensures (sym (append-nil _)) c.loop-booking.invariant

pub returns : goal.returns
returns c =
    all_rows (λ (b : Booking). b.day) (month_if_new c.args.court.now c.args.labels.now c.args.calendar.now) no_row c.loop-booking.before c.args.bookings.now c.loop-booking.booking-index _ _
    (omega (arith, c.loop-booking-test.false)) c.loop-booking.invariant
