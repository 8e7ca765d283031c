use Rattle.std.proofs.Common.{None, bit_and, ◌≡◌, ◌∙◌, ap, subst, sym}
use Rattle.std.specs.List.{find}
use Rattle.hearing_slots.specs.Booking.{is_on}
use Rattle.hearing_slots.specs.Calendar.{first_conflict, IsCalendar, conflicts, on_day}
use Rattle.hearing_slots.specs.Timetable.{TimetableView}
use Rattle.hearing_slots.specs.Slots.{slots_from, slots_taken, marked}
use Rattle.hearing_slots.proofs.DayLemmas.{first_conflict-apart}
use Rattle.hearing_slots.proofs.Filters.{find-filter}
use Rattle.hearing_slots.proofs.Conflicts.{first_conflict-Some, first_conflict-None}
use Rattle.hearing_slots.proofs.Order.{conflicts-on_day}
use Rattle.hearing_slots.proofs.timetable.Timetable.conflict.Goals as goal

-- what the search of the day finds is what a search of all bookings finds
found : (c : goal.After-first_of) → c.first_of.result ≡ first_conflict c.args.self.now.bookings c.args.day c.args.first c.args.count c.args.except
unfolding first_conflict
found c =
    let test = conflicts c.args.day c.args.first c.args.count c.args.except in
    c.first_of.ensures
    ∙ ap (find test) c.part_of_day.ensures
    ∙ find-filter test (is_on c.args.day) (conflicts-on_day c.args.day c.args.first c.args.count c.args.except) c.deref-2.result.now
    ∙ ap (find test) (c.deref-2.ensures.value ∙ ap (λ (t : TimetableView). t.bookings) c.self.view_is)

pub returns-clause-value : goal.returns-clause-value
returns-clause-value c = found c

pub returns-clause-some : goal.returns-clause-some
returns-clause-some c =
    let calendar : IsCalendar c.args.self.now.bookings = subst IsCalendar (ap (λ (t : TimetableView). t.bookings) c.self.view_is) c.self.invariant.0 in
    first_conflict-Some c.args.self.now.bookings c.args.day c.args.first c.args.count c.args.except calendar c.requires.some_slot c.first_of.result (found c)

pub returns-clause-none : goal.returns-clause-none
returns-clause-none c = first_conflict-None c.args.self.now.bookings c.args.day c.args.first c.args.count c.args.except c.first_of.result (found c)

-- where no slot of the span is taken, no booking is found
none : (c : goal.Then-taken_on-slots_from-eq0) → None ≡ first_conflict c.args.self.now.bookings c.args.day c.args.first c.args.count c.args.except
none c =
    let all = c.self.inside.bookings.items in
    let taken : c.taken_on.result ≡ slots_taken (on_day c.args.day all) = c.taken_on.ensures ∙ ap (marked c.args.day) c.deref.ensures.value ∙ c.self.invariant.1.exact c.args.day in
    let apart : bit_and (slots_taken (on_day c.args.day all)) (slots_from c.args.first c.args.count) ≡ 0 = rw (taken, c.slots_from.ensures) at c.if-taken_on-slots_from-eq0.true in
    rw (← ap (λ (t : TimetableView). t.bookings) c.self.view_is) (sym (first_conflict-apart all c.args.day c.args.first c.args.count c.args.except c.self.invariant.0 c.requires.some_slot apart))

pub returns-then-taken_on-slots_from-eq0-clause-value : goal.returns-then-taken_on-slots_from-eq0-clause-value
returns-then-taken_on-slots_from-eq0-clause-value c = none c

pub returns-then-taken_on-slots_from-eq0-clause-none : goal.returns-then-taken_on-slots_from-eq0-clause-none
returns-then-taken_on-slots_from-eq0-clause-none c = first_conflict-None c.args.self.now.bookings c.args.day c.args.first c.args.count c.args.except None (none c)
