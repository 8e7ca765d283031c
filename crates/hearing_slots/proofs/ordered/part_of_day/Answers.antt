use Rattle.std.proofs.Common.{◌≡◌, ◌-◌, int_lt, int_le, not, true, drop, length, take, rules, subst, sym, ap, ◌∙◌}
use Rattle.std.specs.List.{filter, AllPairs}
use Rattle.std.proofs.lemmas.List.{take_rest}
use Rattle.std.proofs.lemmas.List.Elements.{filter_agree}
use Rattle.std.proofs.lemmas.List.Kept.{AllPairs-filter}
use Rattle.std.proofs.lemmas.List.Sorted.{IsPartitionPoint-from_clause}
use Rattle.hearing_slots.specs.declared.booking.Booking.{Booking}
use Rattle.hearing_slots.specs.Booking.{begins_before, is_on}
use Rattle.hearing_slots.proofs.Filters.{filter_front, filter_back, filter-filter, parted}
use Rattle.hearing_slots.proofs.Order.{begins_before-earlier, begins_before-not_later, is_on-from_bounds}
use Rattle.hearing_slots.proofs.ordered.part_of_day.Goals as goal

pub returns : goal.returns
returns c =
    let all = c.args.bookings.now in
    let number = c.number-number.result in
    let from = c.partition_point-earlier.result in
    let upto = c.partition_point-taken.result in
    let in_order = λ (a b : Booking). begins_before a b ≡ true in
    let earlier = λ (b : Booking). int_lt b.day number in
    let not_later = λ (b : Booking). int_le b.day number in
    let rest = take (length all - from) (drop from all) in
    let first = IsPartitionPoint-from_clause earlier all from c.partition_point-earlier.ensures.partitioned (parted in_order earlier all c.requires (begins_before-earlier number)) (λ a r q k. search rules) in
    let rest_is : rest ≡ filter (λ b. not (earlier b)) all = take_rest all from ∙ sym (filter_back earlier all from c.partition_point-earlier.ensures.bound first) in
    let rest_in_order : AllPairs in_order rest = subst (AllPairs in_order) (sym rest_is) (AllPairs-filter in_order (λ b. not (earlier b)) all c.requires) in
    let second = IsPartitionPoint-from_clause not_later rest upto c.partition_point-taken.ensures.partitioned (parted in_order not_later rest rest_in_order (begins_before-not_later number)) (λ a r q k. search rules) in
    sym (filter_front not_later rest upto c.partition_point-taken.ensures.bound second)
    ∙ ap (filter not_later) rest_is
    ∙ filter-filter not_later (λ b. not (earlier b)) all
    ∙ filter_agree _ _ (is_on-from_bounds number) all
    ∙ ap (λ day. filter (is_on day) all) c.number-number.ensures.value
