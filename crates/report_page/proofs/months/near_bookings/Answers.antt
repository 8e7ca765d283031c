use Rattle.std.proofs.Common.{◌∙◌, ◌++◌, ◌∷◌, [], List, filter, take, cond, sym, ap}
use Rattle.std.proofs.lemmas.List.{take_all}
use Rattle.std.proofs.lemmas.List.Elements.{filter_more}
use Rattle.hearing_slots.specs.declared.booking.Booking.{Booking}
use Rattle.report_page.specs.Months.{is_near}
use Rattle.report_page.proofs.months.near_bookings.Goals as goal

pub loop-booking-preserved : goal.loop-booking-preserved
loop-booking-preserved c =
    let near = is_near c.args.first in
    let so_far = take c.loop-booking.booking-index c.args.bookings.now in
    let here = c.booking-item.result in
    c.in_ok-push_if_near.ensures
    ∙ ap (λ (bs : List Booking). bs ++ cond (near here) (here ∷ []) []) c.loop-booking.invariant
    ∙ ap (λ (b : Booking). filter near so_far ++ cond (near b) (b ∷ []) []) c.booking-item.is
    ∙ sym (filter_more near c.args.bookings.now c.loop-booking.booking-index here c.loop-booking-test.true)

pub returns : goal.returns
returns c = c.loop-booking.invariant ∙ ap (filter (is_near c.args.first)) (take_all c.loop-booking.booking-index c.args.bookings.now c.loop-booking-test.false)
