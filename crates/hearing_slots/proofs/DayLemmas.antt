-- The bookings of a day, and the slots that they take, after one booking is put in or taken out.
use Rattle.std.proofs.Common.{◌≡◌, ℕ, ◌≤◌, ℤ, Bool, true, false, not, Option, Some, None, List, ◌∷◌, ◌++◌, get_or, take, drop, bit_and, refl, sym, ap, ◌∙◌, subst, arith, inl, inr, take-append-drop}
use Rattle.std.specs.Ordering.{int_eq}
use Rattle.std.specs.List.{All, Contains, filter, find, insert}
use Rattle.std.proofs.lemmas.Int.{ints}
use Rattle.std.proofs.lemmas.Bool.{cases_Bool, cases_order, both_ways, not_from_false}
use Rattle.std.proofs.lemmas.List.{get_or_default}
use Rattle.std.proofs.lemmas.List.Elements.{filter-append, All-filter, Contains-append_right}
use Rattle.hearing_slots.specs.declared.booking.Booking.{Booking}
use Rattle.hearing_slots.specs.declared.day_slots.DaySlots.{DaySlots}
use Rattle.hearing_slots.specs.Booking.{IsWithinDay, is_of, is_on}
use Rattle.hearing_slots.specs.Calendar.{IsCalendar, conflicts, first_conflict, on_day, without_motion}
use Rattle.hearing_slots.specs.Slots.{slots_from, slots_taken, MarksBookings, MarksOnly}
use Rattle.hearing_slots.proofs.Filters.{filter_kept, filter_comm, find-filter}
use Rattle.hearing_slots.proofs.Finds.{find_absent, find-Some}
use Rattle.hearing_slots.proofs.Order.{conflicts-on_day}
use Rattle.hearing_slots.proofs.Conflicts.{IsConflict-from_conflicts}
use Rattle.hearing_slots.proofs.SlotBits.{slots_apart, spans_meet, slots_none, none_from_each}

pub not_on : (day : ℤ) (b : Booking) → (b.day ≡ day → ⊥) → is_on day b ≡ false
not_on day b other = grind (arith, ints)

on_own_day : (b : Booking) → is_on b.day b ≡ true
on_own_day b = grind (arith, ints)

day_from_on : (day : ℤ) (b : Booking) → is_on day b ≡ true → b.day ≡ day
day_from_on day b h = grind (arith, ints)

-- one more booking changes no other day
pub on_day-insert_other : (bookings : List Booking) (i : ℕ) (b : Booking) (day : ℤ) → (b.day ≡ day → ⊥) → on_day day (insert bookings i b) ≡ on_day day bookings
on_day-insert_other bookings i b day other =
    let fails : is_on day b ≡ false = not_on day b other in
    filter-append (is_on day) (take i bookings) (b ∷ drop i bookings)
    ∙ ap (λ bs. filter (is_on day) (take i bookings) ++ bs) (rw fails refl)
    ∙ sym (filter-append (is_on day) (take i bookings) (drop i bookings))
    ∙ ap (on_day day) (take-append-drop i bookings)

-- and stands on its own
pub on_day-insert_here : (bookings : List Booking) (i : ℕ) (b : Booking) → Contains (on_day b.day (insert bookings i b)) b
on_day-insert_here bookings i b =
    let passes : is_on b.day b ≡ true = on_own_day b in
    let rest = filter (is_on b.day) (drop i bookings) in
    let parts : on_day b.day (insert bookings i b) ≡ filter (is_on b.day) (take i bookings) ++ b ∷ rest = filter-append (is_on b.day) (take i bookings) (b ∷ drop i bookings) ∙ ap (λ bs. filter (is_on b.day) (take i bookings) ++ bs) (rw passes refl) in
    let first : Contains (b ∷ rest) b = (0, omega arith, refl) in
    rw parts (Contains-append_right (filter (is_on b.day) (take i bookings)) (b ∷ rest) b first)

same_motion : (case motion : ℕ) (a b : Booking) → is_of case motion a ≡ true → is_of a.case a.motion b ≡ false → is_of case motion b ≡ false
same_motion case motion a b h k = grind arith

-- all of a case and motion lies on the day of the one that is found
pub of_one_day : (case motion : ℕ) (bookings : List Booking) (gone : Booking) → IsCalendar bookings → find (is_of case motion) bookings ≡ Some gone → All (λ b. is_of case motion b ≡ true → b.day ≡ gone.day) bookings
of_one_day case motion bookings gone calendar h k d within same =
    let found = find-Some (is_of case motion) bookings gone h in
    let stands : get_or bookings found.place d ≡ gone = get_or_default bookings found.place d gone found.within ∙ found.stands in
    elim (cases_order k found.place) [
      | inl here ↦ ap (λ (b : Booking). b.day) (ap (λ (n : ℕ). get_or bookings n d) here ∙ stands)
      | inr apart ↦ elim apart [
        | inl before ↦ absurd (both_ways _ (found.first k d before) same)
        | inr behind ↦
            let other = subst (λ (a : Booking). is_of a.case a.motion (get_or bookings k d) ≡ false) stands (calendar.once found.place k d behind within) in
            absurd (both_ways _ (same_motion case motion gone (get_or bookings k d) found.passes other) same)
      ]
    ]

-- to take a booking out changes no other day
pub on_day-without_motion : (case motion : ℕ) (bookings : List Booking) (gone : Booking) (day : ℤ) → IsCalendar bookings → find (is_of case motion) bookings ≡ Some gone → (day ≡ gone.day → ⊥) → on_day day (without_motion case motion bookings) ≡ on_day day bookings
on_day-without_motion case motion bookings gone day calendar h other =
    let one_day = of_one_day case motion bookings gone calendar h in
    filter_kept (is_on day) (λ b. not (is_of case motion b)) bookings (λ k d within on. elim (cases_Bool (is_of case motion (get_or bookings k d))) [
      | inl same ↦ absurd (other (sym (day_from_on day (get_or bookings k d) on) ∙ one_day k d within same))
      | inr differs ↦ not_from_false _ differs
    ])

-- where the bookings of a day take no slot, no part of them does
pub slots_taken-filter : (p : Booking → Bool) (day : ℤ) (bookings : List Booking) → slots_taken (on_day day bookings) ≡ 0 → slots_taken (on_day day (filter p bookings)) ≡ 0
slots_taken-filter p day bookings h =
    let each = slots_none (on_day day bookings) h in
    rw (filter_comm (is_on day) p bookings) (none_from_each (filter p (on_day day bookings)) (All-filter p (λ b. slots_from b.first b.count ≡ 0) (on_day day bookings) each))

-- where no slot of the span is taken on the day, no booking conflicts with it
pub first_conflict-apart : (bookings : List Booking) (day : ℤ) (first count : ℕ) (except : Option (ℕ × ℕ)) → IsCalendar bookings → 1 ≤ count → bit_and (slots_taken (on_day day bookings)) (slots_from first count) ≡ 0 → first_conflict bookings day first count except ≡ None
unfolding first_conflict
first_conflict-apart bookings day first count except calendar some h =
    let test = conflicts day first count except in
    let apart = slots_apart (slots_from first count) (on_day day bookings) h in
    let within = All-filter (is_on day) IsWithinDay bookings calendar.within_day in
    sym (find-filter test (is_on day) (conflicts-on_day day first count except) bookings)
    ∙ find_absent test (on_day day bookings) (λ k d below. elim (cases_Bool (test (get_or (on_day day bookings) k d))) [
      | inl meets ↦
          let b = get_or (on_day day bookings) k d in
          let shared = (IsConflict-from_conflicts day first count except b (within k d below) some meets).1 in
          absurd (spans_meet b.first b.count first count shared.slot shared.in_booking.0 shared.in_booking.1 shared.in_span.0 shared.in_span.1 (apart k d below))
      | inr free ↦ free
    ])

-- the masks are right again once that of the one changed day is
pub marked_again : (old new : List Booking) (days changed : List DaySlots) (day : ℤ) (taken : ℕ) → MarksBookings old days → MarksOnly days changed day taken → taken ≡ slots_taken (on_day day new) → ((q : ℤ) → (q ≡ day → ⊥) → on_day q new ≡ on_day q old) → MarksBookings new changed
marked_again old new days changed day taken marks change here others = record {
  masks = change.masks;
  exact = λ q. elim (cases_Bool (int_eq q day)) [
    | inl same ↦
        let one : q ≡ day = grind (arith, ints) in
        rw one (change.this_day ∙ here)
    | inr differs ↦
        let other : q ≡ day → ⊥ = grind (arith, ints) in
        change.other_days q other ∙ marks.exact q ∙ ap slots_taken (sym (others q other))
  ];
}
