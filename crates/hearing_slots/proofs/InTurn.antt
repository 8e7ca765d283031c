-- The bookings of a calendar, put in one after another.
use Rattle.std.proofs.Common.{◌≡◌, ℕ, ◌+◌, ◌<◌, true, false, not, List, [], ◌∷◌, ◌++◌, Some, get_or, length, take, sym, ap, ◌∙◌, subst}
use Rattle.std.specs.List.{All, filter}
use Rattle.std.proofs.lemmas.Bool.{not_from_true, not_from_false}
use Rattle.std.proofs.lemmas.List.{get_or_default, take_more}
use Rattle.hearing_slots.specs.declared.booking.Booking.{Booking}
use Rattle.hearing_slots.specs.Booking.{SharesSlot, begins_before, is_of}
use Rattle.hearing_slots.specs.Calendar.{IsCalendar, IsConflict, IsFree, in_place, with_booking}
use Rattle.hearing_slots.proofs.Filters.{All-front, filter_all, filter_none}
use Rattle.hearing_slots.proofs.Order.{is_of-sym}

module _ (bookings : List Booking) (i : ℕ) (b : Booking) (calendar : IsCalendar bookings) (within : i < length bookings) (here : b ≡ get_or bookings i b) where
  item : (d : Booking) → get_or bookings i d ≡ b
  item d = get_or_default bookings i d b within ∙ sym here

  earlier : All (λ a. begins_before a b ≡ true) (take i bookings)
  earlier = All-front (λ a. begins_before a b ≡ true) bookings i (λ k d low high. subst (λ (x : Booking). begins_before (get_or bookings k d) x ≡ true) (item d) (calendar.sorted k i d high within))

  others : All (λ a. is_of b.case b.motion a ≡ false) (take i bookings)
  others = All-front (λ a. is_of b.case b.motion a ≡ false) bookings i (λ k d low high. is_of-sym b (get_or bookings k d) (subst (λ (x : Booking). is_of (get_or bookings k d).case (get_or bookings k d).motion x ≡ false) (item d) (calendar.once k i d high within)))

  -- the next booking comes after those before it
  pub next_with : with_booking b (take i bookings) ≡ take (i + 1) bookings
  unfolding with_booking
  next_with =
      let front = take i bookings in
      ap (in_place b) (filter_all (λ x. not (is_of b.case b.motion x)) front (λ k d low. not_from_false _ (others k d low)))
      ∙ ap (λ (ys : List Booking). ys ++ b ∷ filter (λ a. not (begins_before a b)) front) (filter_all (λ a. begins_before a b) front earlier)
      ∙ ap (λ (ys : List Booking). front ++ b ∷ ys) (filter_none (λ a. not (begins_before a b)) front (λ k d low. not_from_true _ (earlier k d low)))
      ∙ ap (λ (x : Booking). front ++ x ∷ []) here
      ∙ sym (take_more bookings i b within)

  -- and shares a slot with none of them
  pub next_free : IsFree (take i bookings) b.day b.first b.count (Some (b.case, b.motion))
  next_free = All-front (λ x. IsConflict b.day b.first b.count (Some (b.case, b.motion)) x → ⊥) bookings i (λ k d low high conflict. subst (λ (x : Booking). SharesSlot (get_or bookings k d) x.day x.first x.count → ⊥) (item d) (calendar.apart k i d high within) conflict.1)
