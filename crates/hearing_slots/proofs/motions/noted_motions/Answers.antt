use Rattle.std.proofs.Common.{◌≡◌, ◌+◌, ◌<◌, false, List, [], ◌∷◌, ◌++◌, length, get_or, take, ap, ◌∙◌, sym, subst, arith}
use Rattle.std.specs.List.{All}
use Rattle.std.proofs.lemmas.List.{get_or_default, take_more}
use Rattle.hearing_slots.specs.declared.booking.Booking.{Booking}
use Rattle.hearing_slots.specs.Booking.{is_of}
use Rattle.hearing_slots.specs.Motions.{NotesBookings}
use Rattle.hearing_slots.proofs.Filters.{All-front}
use Rattle.hearing_slots.proofs.MotionLemmas.{noted_more}
use Rattle.hearing_slots.proofs.Order.{is_of-sym}
use Rattle.hearing_slots.proofs.motions.noted_motions.Goals as goal

pub loop-booking-preserved : goal.loop-booking-preserved
loop-booking-preserved c =
    let b = c.booking-item.result in
    let all = c.args.bookings.now in
    let i = c.loop-booking.booking-index in
    let within : i < length all = omega (arith, c.loop-booking-test.true) in
    let more : take (i + 1) all ≡ take i all ++ b ∷ [] = take_more all i b within ∙ ap (λ (x : Booking). take i all ++ x ∷ []) (sym c.booking-item.is) in
    let only : All (λ a. is_of b.case b.motion a ≡ false) (take i all) = All-front (λ a. is_of b.case b.motion a ≡ false) all i (λ k d low high.
    let here : get_or all i d ≡ b = get_or_default all i d b within ∙ sym c.booking-item.is in
    is_of-sym b (get_or all k d) (subst (λ (x : Booking). is_of (get_or all k d).case (get_or all k d).motion x ≡ false) here (c.requires k i d high within))) in
    record {
      notes = subst (λ (bs : List Booking). NotesBookings bs c.note.new.motions) (sym more) (noted_more b (take i all) c.loop-booking.motions c.note.new.motions only c.loop-booking.invariant.notes c.note.ensures.rest);
      room = omega (arith, c.loop-booking.invariant.room, c.note.ensures.room);
    }
