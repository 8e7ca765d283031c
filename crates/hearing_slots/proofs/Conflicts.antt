-- The first booking in order that conflicts with a span of slots is the one with the least first slot.
use Rattle.std.proofs.Common.{◌≡◌, ℕ, ◌≤◌, ℤ, true, not, Option, Some, None, List, get_or, sym, ap, ◌∙◌, subst, arith, inl, inr, IfSome, IfNone}
use Rattle.std.specs.List.{find}
use Rattle.std.proofs.lemmas.Int.{ints}
use Rattle.std.proofs.lemmas.Bool.{cases_order, and_parts, not-true, not_from_false, and_from, both_ways}
use Rattle.std.proofs.lemmas.List.{get_or_default}
use Rattle.hearing_slots.specs.declared.booking.Booking.{Booking}
use Rattle.hearing_slots.specs.Booking.{IsWithinDay, is_excepted, begins_before, shares_slot}
use Rattle.hearing_slots.specs.Calendar.{IsCalendar, IsConflict, IsLeastConflict, IsFree, conflicts, first_conflict}
use Rattle.hearing_slots.proofs.Finds.{find-Some, find-None}
use Rattle.hearing_slots.proofs.Order.{SharesSlot-from_test, test_from_SharesSlot}

-- what conflicts passes the test
conflicts-from_IsConflict : (day : ℤ) (first count : ℕ) (except : Option (ℕ × ℕ)) (b : Booking) → IsConflict day first count except b → conflicts day first count except b ≡ true
conflicts-from_IsConflict day first count except b h =
    and_from _ _ (test_from_SharesSlot b day first count h.1) (not_from_false _ h.0)

-- and what passes the test conflicts
pub IsConflict-from_conflicts : (day : ℤ) (first count : ℕ) (except : Option (ℕ × ℕ)) (b : Booking) → IsWithinDay b → 1 ≤ count → conflicts day first count except b ≡ true → IsConflict day first count except b
IsConflict-from_conflicts day first count except b within some h =
    let parts = and_parts (shares_slot b day first count) (not (is_excepted except b)) h in
    (not-true _ parts.1, SharesSlot-from_test b day first count within.some_slot some parts.0)

-- of two bookings of one day, the one that begins before the other has the lesser first slot
begins_before-first : (a b : Booking) → a.day ≡ b.day → begins_before a b ≡ true → a.first ≤ b.first
begins_before-first a b same_day before = grind (arith, ints)

least_found : (bookings : List Booking) (day : ℤ) (first count : ℕ) (except : Option (ℕ × ℕ)) → IsCalendar bookings → 1 ≤ count → (r : Booking) → find (conflicts day first count except) bookings ≡ Some r → IsLeastConflict bookings day first count except r
least_found bookings day first count except calendar some r h =
    let test = conflicts day first count except in
    let found = find-Some test bookings r h in
    let within : IsWithinDay r = subst IsWithinDay found.stands (calendar.within_day found.place r found.within) in
    let conflict = IsConflict-from_conflicts day first count except r within some found.passes in
    record {
      stands = (found.place, found.within, found.stands);
      conflict = conflict;
      least = λ k d below other. elim (cases_order k found.place) [
        | inl here ↦
            let same : get_or bookings k d ≡ r = ap (λ (n : ℕ). get_or bookings n d) here ∙ get_or_default bookings found.place d r found.within ∙ found.stands in
            rw same (omega arith)
        | inr apart ↦ elim apart [
          | inl before ↦ absurd (both_ways (test (get_or bookings k d)) (found.first k d before) (conflicts-from_IsConflict day first count except (get_or bookings k d) other))
          | inr behind ↦
              let stands : get_or bookings found.place d ≡ r = get_or_default bookings found.place d r found.within ∙ found.stands in
              let order : begins_before r (get_or bookings k d) ≡ true = subst (λ (a : Booking). begins_before a (get_or bookings k d) ≡ true) stands (calendar.sorted found.place k d behind below) in
              begins_before-first r (get_or bookings k d) (conflict.1.same_day ∙ sym other.1.same_day) order
        ]
      ];
    }

none_found : (bookings : List Booking) (day : ℤ) (first count : ℕ) (except : Option (ℕ × ℕ)) → find (conflicts day first count except) bookings ≡ None → IsFree bookings day first count except
none_found bookings day first count except h k d within conflict =
    both_ways _ (find-None (conflicts day first count except) bookings h k d within) (conflicts-from_IsConflict day first count except (get_or bookings k d) conflict)

-- what is found is the conflict with the least first slot
pub first_conflict-Some : (bookings : List Booking) (day : ℤ) (first count : ℕ) (except : Option (ℕ × ℕ)) → IsCalendar bookings → 1 ≤ count → (found : Option Booking) → found ≡ first_conflict bookings day first count except → IfSome found (IsLeastConflict bookings day first count except)
unfolding first_conflict
first_conflict-Some bookings day first count except calendar some None h = tt
first_conflict-Some bookings day first count except calendar some (Some r) h = least_found bookings day first count except calendar some r (sym h)

-- and where none is found there is none
pub first_conflict-None : (bookings : List Booking) (day : ℤ) (first count : ℕ) (except : Option (ℕ × ℕ)) → (found : Option Booking) → found ≡ first_conflict bookings day first count except → IfNone found (IsFree bookings day first count except)
unfolding first_conflict
first_conflict-None bookings day first count except None h = none_found bookings day first count except (sym h)
first_conflict-None bookings day first count except (Some r) h = tt
