use Rattle.std.proofs.Common.{◌≡◌, ◌∙◌, ◌<◌, List, Some, ap, arith, length, subst, sym, take}
use Rattle.hearing_slots.specs.declared.booking.Booking.{Booking}
use Rattle.hearing_slots.specs.Calendar.{IsFree, with_booking}
use Rattle.hearing_slots.proofs.InTurn.{next_free, next_with}
use Rattle.hearing_slots.proofs.blocks.Blocks.of.Goals as goal

pub with-requires-clause-free : goal.with-requires-clause-free
with-requires-clause-free c =
    let b = c.booking-item.result in
    let i = c.loop-booking.booking-index in
    let within : i < length c.args.bookings.now = omega (arith, c.loop-booking-test.true) in
    let sofar : c.loop-booking.blocks ≡ take i c.args.bookings.now = c.loop-booking.invariant in
    subst (λ (bookings : List Booking). IsFree bookings b.day b.first b.count (Some (b.case, b.motion))) (sym sofar) (next_free c.args.bookings.now i b c.requires within c.booking-item.is)

pub loop-booking-preserved : goal.loop-booking-preserved
loop-booking-preserved c =
    let b = c.booking-item.result in
    let i = c.loop-booking.booking-index in
    let within : i < length c.args.bookings.now = omega (arith, c.loop-booking-test.true) in
    let sofar : c.loop-booking.blocks ≡ take i c.args.bookings.now = c.loop-booking.invariant in
    c.in_ok-blocks-2.ensures ∙ ap (with_booking b) sofar ∙ next_with c.args.bookings.now i b c.requires within c.booking-item.is
