use Rattle.std.proofs.Common.{◌≡◌, true, rules}
use Rattle.std.proofs.lemmas.List.Sorted.{IsPartitionPoint-from_clause}
use Rattle.hearing_slots.specs.declared.booking.Booking.{Booking}
use Rattle.hearing_slots.specs.Booking.{begins_before}
use Rattle.hearing_slots.proofs.Filters.{parted}
use Rattle.hearing_slots.proofs.Order.{begins_before-trans}
use Rattle.hearing_slots.proofs.ordered.place_of.Goals as goal

pub returns-clause-point : goal.returns-clause-point
returns-clause-point c =
    let b = c.args.booking.now in
    let all = c.args.bookings.now in
    let sorted = λ (x y : Booking). begins_before x y ≡ true in
    let earlier = λ (a : Booking). begins_before a b in
    IsPartitionPoint-from_clause earlier all c.partition_point.result c.partition_point.ensures.partitioned (parted sorted earlier all c.requires (λ a d h k. begins_before-trans a d b h k)) (λ a r q k. search rules)
