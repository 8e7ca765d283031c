use Rattle.std.proofs.Common.{◌≡◌, ◌≤◌, true, false, length, ◌∙◌, sym, subst, List}
use Rattle.std.specs.List.{insert}
use Rattle.std.specs.List.Sorted.{IsPartitionPoint}
use Rattle.hearing_slots.specs.declared.booking.Booking.{Booking}
use Rattle.hearing_slots.specs.Booking.{begins_before}
use Rattle.hearing_slots.proofs.CalendarLemmas.{IsCalendar-insert, in_place-at}
use Rattle.hearing_slots.proofs.DayLemmas.{on_day-insert_other, on_day-insert_here}
use Rattle.hearing_slots.proofs.ordered.place_in.Goals as goal

-- the place that was found
point : (c : goal.After-unwrap) → IsPartitionPoint (λ a. begins_before a c.args.booking ≡ true) (λ a. begins_before a c.args.booking ≡ false) c.args.bookings.now.items c.place_of-place.result
point c = subst (λ (bs : List Booking). IsPartitionPoint (λ a. begins_before a c.args.booking ≡ true) (λ a. begins_before a c.args.booking ≡ false) bs c.place_of-place.result) c.deref.ensures.value c.place_of-place.ensures.point

within : (c : goal.After-unwrap) → c.place_of-place.result ≤ length c.args.bookings.now.items
within c = subst (λ (bs : List Booking). c.place_of-place.result ≤ length bs) c.deref.ensures.value c.place_of-place.ensures.bound

inserted : (c : goal.After-unwrap) → c.insert.new.self.items ≡ insert c.args.bookings.now.items c.place_of-place.result c.args.booking
inserted c = rw c.unwrap.ensures at c.insert.ensures.items

pub returns-clause-items : goal.returns-clause-items
returns-clause-items c = inserted c ∙ sym (in_place-at c.args.booking c.args.bookings.now.items c.place_of-place.result (within c) (point c))

pub returns-clause-calendar : goal.returns-clause-calendar
returns-clause-calendar c =
    rw (inserted c) (IsCalendar-insert c.args.bookings.now.items c.place_of-place.result c.args.booking c.requires.calendar c.requires.within_day c.requires.free c.requires.only (within c) (point c))

pub returns-clause-here : goal.returns-clause-here
returns-clause-here c = rw (inserted c) (on_day-insert_here c.args.bookings.now.items c.place_of-place.result c.args.booking)

pub returns-clause-other_days : goal.returns-clause-other_days
returns-clause-other_days c = rw (inserted c) (on_day-insert_other c.args.bookings.now.items c.place_of-place.result c.args.booking)
