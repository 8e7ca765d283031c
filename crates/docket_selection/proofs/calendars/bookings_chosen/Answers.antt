use Rattle.std.proofs.Common.{◌≡◌, ◌∙◌, List, ap, subst}
use Rattle.std.specs.Prelude.{filter, IfOk}
use Rattle.hearing_slots.specs.declared.booking.Booking.{Booking}
use Rattle.docket_selection.specs.Calendars.{is_booking_chosen}
use Rattle.docket_selection.proofs.CalendarLemmas.{chosen_given}
use Rattle.docket_selection.proofs.calendars.bookings_chosen.Goals as goal

pub returns-in-Some : goal.returns-in-Some
returns-in-Some c = λ docketed stands.
    let is = ap (filter (is_booking_chosen c.args.choice.now)) c.all.ensures.value ∙ chosen_given c.args.docket.now docketed c.args.choice.now c.args.judge c.in-Some.calendar.now stands c.in-Some.ensures in
    subst (λ (bookings : List Booking). IfOk c.only_chosen.result (λ list. list.items ≡ bookings)) is c.only_chosen.ensures
