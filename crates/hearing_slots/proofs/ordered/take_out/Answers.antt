use Rattle.std.proofs.Common.{◌≡◌, ◌≤◌, true, false, length, ◌∙◌, subst, List, arith}
use Rattle.std.specs.List.Sorted.{IsPartitionPoint}
use Rattle.hearing_slots.specs.declared.booking.Booking.{Booking}
use Rattle.hearing_slots.specs.Booking.{begins_before}
use Rattle.hearing_slots.proofs.Removals.{taken_out}
use Rattle.hearing_slots.proofs.ordered.take_out.Goals as goal

pub remove-requires : goal.remove-requires
remove-requires c =
    let place = c.place_of-place.result in
    let all = c.args.bookings.now.items in
    let point = subst (λ (bs : List Booking). IsPartitionPoint (λ a. begins_before a c.args.gone ≡ true) (λ a. begins_before a c.args.gone ≡ false) bs place) c.deref.ensures.value c.place_of-place.ensures.point in
    let within : place ≤ length all = subst (λ (bs : List Booking). place ≤ length bs) c.deref.ensures.value c.place_of-place.ensures.bound in
    let out = taken_out all c.args.gone place c.requires.calendar c.requires.stands within point in
    omega (arith, out.0)

pub returns-clause-items : goal.returns-clause-items
returns-clause-items c =
    let place = c.place_of-place.result in
    let all = c.args.bookings.now.items in
    let point = subst (λ (bs : List Booking). IsPartitionPoint (λ a. begins_before a c.args.gone ≡ true) (λ a. begins_before a c.args.gone ≡ false) bs place) c.deref.ensures.value c.place_of-place.ensures.point in
    let within : place ≤ length all = subst (λ (bs : List Booking). place ≤ length bs) c.deref.ensures.value c.place_of-place.ensures.bound in
    c.remove.ensures.items ∙ (taken_out all c.args.gone place c.requires.calendar c.requires.stands within point).1
