use Rattle.std.proofs.Common.{◌∙◌, ap}
use Rattle.hearing_slots.specs.declared.booking.Booking.{Booking}
use Rattle.std.proofs.Common.{List}
use Rattle.docket_selection.specs.declared.bookings.DayBookings.{DayBookings}
use Rattle.docket_selection.specs.Bookings.{bookings_seen, day_bookings}
use Rattle.docket_selection.proofs.DueLemmas.{one_item_more}
use Rattle.docket_selection.proofs.bookings.bookings_on.Goals as goal

pub loop-day-preserved : goal.loop-day-preserved
loop-day-preserved c = λ docketed stands.
    let on : List Booking → DayBookings = λ b. record { day = c.day-item.result; bookings = b } in
    one_item_more (day_bookings c.args.docket.now.setup docketed c.args.judge) c.args.days.now c.loop-day.day-index c.day-item.result (on c.bookings_seen.result) c.loop-day.list.items _ _
    c.loop-day-test.true c.day-item.is (ap on (c.bookings_seen.ensures ∙ ap bookings_seen (c.in_ok-view.ensures.rows docketed stands))) c.in_ok-push.ensures.items (c.loop-day.invariant docketed stands)
