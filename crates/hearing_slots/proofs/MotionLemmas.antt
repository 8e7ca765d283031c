-- The booking of each motion, after one booking is put in or taken out.
use Rattle.std.proofs.Common.{◌≡◌, ℕ, true, false, not, ◌&&◌, ◌==◌, Some, None, List, [], ◌∷◌, ◌++◌, sym, ap, ◌∙◌, arith, inl, inr}
use Rattle.std.specs.HashMap.{HashMap}
use Rattle.std.specs.List.{All, filter, find}
use Rattle.std.proofs.lemmas.Bool.{cases_Bool, not-true, not_from_false}
use Rattle.std.proofs.lemmas.List.{append-nil}
use Rattle.std.proofs.lemmas.List.Elements.{All-filter, filter_passes}
use Rattle.hearing_slots.specs.declared.booking.Booking.{Booking}
use Rattle.hearing_slots.specs.Booking.{is_of, begins_before}
use Rattle.hearing_slots.specs.Calendar.{IsCalendar, in_place, without_motion, with_booking}
use Rattle.hearing_slots.specs.Motions.{NotesBookings, NotesOnly, noted, same_motion}
use Rattle.hearing_slots.proofs.Filters.{find-filter}
use Rattle.hearing_slots.proofs.Finds.{find_absent, find_here, find_other}
use Rattle.hearing_slots.proofs.CalendarLemmas.{IsCalendar-filter}
use Rattle.hearing_slots.proofs.InOrderLemmas.{rejoined, none_too_late}

own_motion : (b : Booking) → is_of b.case b.motion b ≡ true
own_motion b = grind arith

other_motion : (b : Booking) (case motion c m : ℕ) → is_of case motion b ≡ true → ((c ≡ case) × (m ≡ motion) → ⊥) → is_of c m b ≡ false
other_motion b case motion c m h other = elim (cases_Bool (is_of c m b)) [
  | inl same ↦
      let one : c ≡ case = grind arith in
      let two : m ≡ motion = grind arith in
      absurd (other (one, two))
  | inr differs ↦ differs
]

-- a booking that is put in place is the one of its motion
in_place-finds : (b : Booking) (bookings : List Booking) → All (λ a. is_of b.case b.motion a ≡ false) bookings → find (is_of b.case b.motion) (in_place b bookings) ≡ Some b
in_place-finds b bookings only =
    let earlier = λ (a : Booking). begins_before a b in
    let later = λ (a : Booking). not (begins_before a b) in
    find_here (is_of b.case b.motion) (filter earlier bookings) b (filter later bookings) (All-filter earlier (λ a. is_of b.case b.motion a ≡ false) bookings only) (own_motion b)

-- which changes no other motion
in_place-finds_other : (b : Booking) (bookings : List Booking) (c m : ℕ) → IsCalendar bookings → ((c ≡ b.case) × (m ≡ b.motion) → ⊥) → find (is_of c m) (in_place b bookings) ≡ find (is_of c m) bookings
in_place-finds_other b bookings c m calendar other =
    let earlier = λ (a : Booking). begins_before a b in
    let later = λ (a : Booking). not (begins_before a b) in
    find_other (is_of c m) (filter earlier bookings) b (filter later bookings) (other_motion b b.case b.motion c m (own_motion b) other)
    ∙ ap (find (is_of c m)) (rejoined b bookings (none_too_late bookings calendar))

-- none of a motion is left that is taken out
pub none_left : (case motion : ℕ) (bookings : List Booking) → All (λ b. is_of case motion b ≡ false) (without_motion case motion bookings)
none_left case motion bookings k d within = not-true _ (filter_passes (λ b. not (is_of case motion b)) bookings k d within)

pub without_motion-finds : (case motion : ℕ) (bookings : List Booking) → find (is_of case motion) (without_motion case motion bookings) ≡ None
without_motion-finds case motion bookings = find_absent (is_of case motion) (without_motion case motion bookings) (none_left case motion bookings)

-- and the others stay
pub without_motion-finds_other : (case motion : ℕ) (bookings : List Booking) (c m : ℕ) → ((c ≡ case) × (m ≡ motion) → ⊥) → find (is_of c m) (without_motion case motion bookings) ≡ find (is_of c m) bookings
without_motion-finds_other case motion bookings c m other =
    find-filter (is_of c m) (λ b. not (is_of case motion b)) (λ b same. not_from_false _ (other_motion b c m case motion same (λ h. other (sym h.0, sym h.1)))) bookings

apart : (c m case motion : ℕ) → (c == case && m == motion) ≡ false → (c ≡ case) × (m ≡ motion) → ⊥
apart c m case motion differs h = let one = h.0 in let two = h.1 in grind arith

-- what is noted of each motion is right again once that of the one changed motion is
pub noted_again : {A : Type 0} (notes changed held now : ℕ → ℕ → A) (case motion : ℕ) (a : A) → ((c m : ℕ) → notes c m ≡ held c m) → changed case motion ≡ a → ((c m : ℕ) → ((c ≡ case) × (m ≡ motion) → ⊥) → changed c m ≡ notes c m) → now case motion ≡ a → ((c m : ℕ) → ((c ≡ case) × (m ≡ motion) → ⊥) → now c m ≡ held c m) → (c m : ℕ) → changed c m ≡ now c m
noted_again notes changed held now case motion a right this others here elsewhere c m = elim (cases_Bool (c == case && m == motion)) [
  | inl same ↦
      let one : c ≡ case = grind arith in
      let two : m ≡ motion = grind arith in
      rw (one, two) (this ∙ sym here)
  | inr differs ↦
      let other : (c ≡ case) × (m ≡ motion) → ⊥ = λ h. apart c m case motion differs h in
      others c m other ∙ right c m ∙ sym (elsewhere c m other)
]

-- the booking that is put in is the one of its motion, and the others stay
pub with_booking-finds : (b : Booking) (bookings : List Booking) → find (is_of b.case b.motion) (with_booking b bookings) ≡ Some b
unfolding with_booking
with_booking-finds b bookings = in_place-finds b (without_motion b.case b.motion bookings) (none_left b.case b.motion bookings)

pub with_booking-finds_other : (b : Booking) (bookings : List Booking) (c m : ℕ) → IsCalendar bookings → ((c ≡ b.case) × (m ≡ b.motion) → ⊥) → find (is_of c m) (with_booking b bookings) ≡ find (is_of c m) bookings
unfolding with_booking
with_booking-finds_other b bookings c m calendar other =
    let left : IsCalendar (without_motion b.case b.motion bookings) = IsCalendar-filter (λ a. not (is_of b.case b.motion a)) bookings calendar in
    in_place-finds_other b (without_motion b.case b.motion bookings) c m left other
    ∙ without_motion-finds_other b.case b.motion bookings c m other

-- after a motion's booking is taken out
pub noted_without : {S : Type 0} (bookings : List Booking) (motions changed : HashMap (ℕ × ℕ) Booking S) (case motion : ℕ) → NotesBookings bookings motions → NotesOnly motions changed case motion None → NotesBookings (without_motion case motion bookings) changed
noted_without bookings motions changed case motion notes change = record {
  exact = noted_again (λ c m. noted c m motions) (λ c m. noted c m changed) (λ c m. find (is_of c m) bookings) (λ c m. find (is_of c m) (without_motion case motion bookings)) case motion None notes.exact change.this_motion change.other_motions (without_motion-finds case motion bookings) (without_motion-finds_other case motion bookings);
}

-- after a booking is put in, and an older one of its motion is taken out
pub noted_with : {S : Type 0} (b : Booking) (bookings : List Booking) (motions between changed : HashMap (ℕ × ℕ) Booking S) → IsCalendar bookings → NotesBookings bookings motions → NotesOnly motions between b.case b.motion None → NotesOnly between changed b.case b.motion (Some b) → NotesBookings (with_booking b bookings) changed
noted_with b bookings motions between changed calendar notes out change = record {
  exact = noted_again (λ c m. noted c m motions) (λ c m. noted c m changed) (λ c m. find (is_of c m) bookings) (λ c m. find (is_of c m) (with_booking b bookings)) b.case b.motion (Some b) notes.exact change.this_motion (λ c m other. change.other_motions c m other ∙ out.other_motions c m other) (with_booking-finds b bookings) (λ c m other. with_booking-finds_other b bookings c m calendar other);
}

-- after a booking of a motion that had none is noted
pub noted_more : {S : Type 0} (b : Booking) (front : List Booking) (motions changed : HashMap (ℕ × ℕ) Booking S) → All (λ a. is_of b.case b.motion a ≡ false) front → NotesBookings front motions → NotesOnly motions changed b.case b.motion (Some b) → NotesBookings (front ++ b ∷ []) changed
noted_more b front motions changed only notes change = record {
  exact = noted_again (λ c m. noted c m motions) (λ c m. noted c m changed) (λ c m. find (is_of c m) front) (λ c m. find (is_of c m) (front ++ b ∷ [])) b.case b.motion (Some b) notes.exact change.this_motion change.other_motions
      (find_here (is_of b.case b.motion) front b [] only (own_motion b))
      (λ c m other. find_other (is_of c m) front b [] (other_motion b b.case b.motion c m (own_motion b) other) ∙ ap (find (is_of c m)) (append-nil front));
}

-- a look-up of another motion is another look-up
pub other_key : (case motion c m : ℕ) → ((c ≡ case) × (m ≡ motion) → ⊥) → same_motion (case, motion) (c, m) ≡ false
other_key case motion c m other = elim (cases_Bool (same_motion (case, motion) (c, m))) [
  | inl same ↦
      let one : c ≡ case = grind arith in
      let two : m ≡ motion = grind arith in
      absurd (other (one, two))
  | inr differs ↦ differs
]
