-- Bookings that are put in order one by one.
use Rattle.std.proofs.Common.{◌≡◌, ◌⊎◌, ◌↔◌, ℕ, ◌≤◌, Bool, true, false, not, List, [], ◌∷◌, ◌++◌, length, get_or, refl, sym, ap, ◌∙◌, arith, inl, inr}
use Rattle.std.specs.List.{All, AllPairs, Contains, filter, fold}
use Rattle.std.specs.List.Sorted.{IsPartitionPoint}
use Rattle.std.proofs.lemmas.Int.{ints}
use Rattle.std.proofs.lemmas.Bool.{cases_Bool, not_from_false}
use Rattle.std.proofs.lemmas.List.{take-append-drop}
use Rattle.std.proofs.lemmas.List.Sums.{fold-append}
use Rattle.std.proofs.lemmas.List.Elements.{All-head, All-tail, All-append, All-cons, All-filter, All-contains, All-contains_itself, filter-append}
use Rattle.hearing_slots.specs.declared.booking.Booking.{Booking}
use Rattle.hearing_slots.specs.Booking.{is_of, begins_before}
use Rattle.hearing_slots.specs.Calendar.{IsCalendar, in_place, in_order, without_motion, with_booking}
use Rattle.hearing_slots.proofs.Filters.{filter_front, filter_back, filter_comm, filter_all, parted}
use Rattle.hearing_slots.proofs.Inserts.{AllPairs-insert}
use Rattle.hearing_slots.proofs.Holdings.{parting, first_or_later, to_in_place}
use Rattle.hearing_slots.proofs.CalendarLemmas.{in_place-at}

-- none begins before one that comes before it in the list
abbrev pub NoneTooLate : List Booking → Type 0
NoneTooLate bookings = AllPairs (λ a b. begins_before b a ≡ false) bookings

-- what does not begin after a booking begins before all that this one begins before
no_later : (a b d : Booking) → begins_before b a ≡ false → begins_before b d ≡ true → begins_before a d ≡ true
no_later a b d h k = grind (arith, ints)

not_before-after : (a b : Booking) → begins_before a b ≡ true → begins_before b a ≡ false
not_before-after a b h = grind (arith, ints)

-- where a booking's place is
place_of : (b : Booking) (bookings : List Booking) → NoneTooLate bookings → (i : ℕ) × (i ≤ length bookings) × IsPartitionPoint (λ a. begins_before a b ≡ true) (λ a. begins_before a b ≡ false) bookings i
place_of b bookings sorted =
    let p = λ (a : Booking). begins_before a b in
    parting p bookings (parted (λ a d. begins_before d a ≡ false) p bookings sorted (λ a d h k. no_later a d b h k))

-- a booking that is put in its place leaves them so
in_place-sorted : (b : Booking) (bookings : List Booking) → NoneTooLate bookings → NoneTooLate (in_place b bookings)
in_place-sorted b bookings sorted =
    let place = place_of b bookings sorted in
    rw (in_place-at b bookings place.0 place.1 place.2)
    (AllPairs-insert (λ x y. begins_before y x ≡ false) bookings place.0 b place.1 sorted
    (λ k d low high. not_before-after (get_or bookings k d) b (place.2.0 k d low high))
    (λ k d low high. place.2.1 k d low high))

-- the bookings of a calendar are in that order
pub none_too_late : (bookings : List Booking) → IsCalendar bookings → NoneTooLate bookings
none_too_late bookings calendar i j d before within = not_before-after (get_or bookings i d) (get_or bookings j d) (calendar.sorted i j d before within)

-- those that begin before a booking and the others are all of them
pub rejoined : (b : Booking) (bookings : List Booking) → NoneTooLate bookings → filter (λ a. begins_before a b) bookings ++ filter (λ a. not (begins_before a b)) bookings ≡ bookings
rejoined b bookings sorted =
    let p = λ (a : Booking). begins_before a b in
    let place = place_of b bookings sorted in
    rw (filter_front p bookings place.0 place.1 place.2, filter_back p bookings place.0 place.1 place.2) (take-append-drop place.0 bookings)

module _ (p : Booking → Bool) where
  -- a booking that passes is put among those that do
  filter-in_place-kept : (b : Booking) (bookings : List Booking) → p b ≡ true → filter p (in_place b bookings) ≡ in_place b (filter p bookings)
  filter-in_place-kept b bookings passes =
      let earlier = λ (a : Booking). begins_before a b in
      let later = λ (a : Booking). not (begins_before a b) in
      filter-append p (filter earlier bookings) (b ∷ filter later bookings)
      ∙ ap (λ (xs : List Booking). xs ++ filter p (b ∷ filter later bookings)) (filter_comm p earlier bookings)
      ∙ ap (λ (xs : List Booking). filter earlier (filter p bookings) ++ xs) (rw passes (ap (λ (xs : List Booking). b ∷ xs) (filter_comm p later bookings)))

  -- and one that doesn't changes nothing
  filter-in_place-dropped : (b : Booking) (bookings : List Booking) → NoneTooLate bookings → p b ≡ false → filter p (in_place b bookings) ≡ filter p bookings
  filter-in_place-dropped b bookings sorted fails =
      let earlier = λ (a : Booking). begins_before a b in
      let later = λ (a : Booking). not (begins_before a b) in
      filter-append p (filter earlier bookings) (b ∷ filter later bookings)
      ∙ ap (λ (xs : List Booking). filter p (filter earlier bookings) ++ xs) (rw fails refl)
      ∙ sym (filter-append p (filter earlier bookings) (filter later bookings))
      ∙ ap (filter p) (rejoined b bookings sorted)

  filter-placed : (placed bookings : List Booking) → NoneTooLate placed → filter p (fold (λ sofar b. in_place b sofar) placed bookings) ≡ fold (λ sofar b. in_place b sofar) (filter p placed) (filter p bookings)
  filter-placed placed [] sorted = refl
  filter-placed placed (b ∷ bs) sorted = elim (cases_Bool (p b)) [
    | inl passes ↦
        rw passes (filter-placed (in_place b placed) bs (in_place-sorted b placed sorted)
        ∙ ap (λ (xs : List Booking). fold (λ sofar b. in_place b sofar) xs (filter p bs)) (filter-in_place-kept b placed passes))
    | inr fails ↦
        rw fails (filter-placed (in_place b placed) bs (in_place-sorted b placed sorted)
        ∙ ap (λ (xs : List Booking). fold (λ sofar b. in_place b sofar) xs (filter p bs)) (filter-in_place-dropped b placed sorted fails))
  ]

  -- what passes a test has the same order as among all
  pub filter-in_order : (bookings : List Booking) → filter p (in_order bookings) ≡ in_order (filter p bookings)
  filter-in_order bookings = filter-placed [] bookings (λ i j d before within. absurd (omega arith))

-- one booking more, after all that are put in order
pub in_order-push : (bookings : List Booking) (b : Booking) → in_order (bookings ++ b ∷ []) ≡ in_place b (in_order bookings)
in_order-push bookings b = fold-append (λ sofar a. in_place a sofar) [] bookings (b ∷ [])

-- without the booking of a motion
pub without_motion-in_order : (case motion : ℕ) (bookings : List Booking) → without_motion case motion (in_order bookings) ≡ in_order (without_motion case motion bookings)
without_motion-in_order case motion bookings = filter-in_order (λ b. not (is_of case motion b)) bookings

-- with a booking in place of an older one of its motion
pub with_booking-in_order : (b : Booking) (bookings : List Booking) → with_booking b (in_order bookings) ≡ in_order (without_motion b.case b.motion bookings ++ b ∷ [])
unfolding with_booking
with_booking-in_order b bookings =
    ap (in_place b) (without_motion-in_order b.case b.motion bookings)
    ∙ sym (in_order-push (without_motion b.case b.motion bookings) b)

-- with a booking of a motion that has none
pub with_booking-push : (b : Booking) (bookings : List Booking) → All (λ a. is_of b.case b.motion a ≡ false) bookings → with_booking b (in_order bookings) ≡ in_order (bookings ++ b ∷ [])
with_booking-push b bookings none =
    with_booking-in_order b bookings
    ∙ ap (λ (xs : List Booking). in_order (xs ++ b ∷ [])) (filter_all (λ a. not (is_of b.case b.motion a)) bookings (λ k d within. not_from_false _ (none k d within)))

-- what holds of all holds of them in order
All-placed : (P : Booking → Type 0) (placed bookings : List Booking) → All P placed → All P bookings → All P (fold (λ sofar b. in_place b sofar) placed bookings)
All-placed P placed [] held all = held
All-placed P placed (b ∷ bs) held all =
    let earlier = λ (a : Booking). begins_before a b in
    let later = λ (a : Booking). not (begins_before a b) in
    let more = All-append P (filter earlier placed) (b ∷ filter later placed) (All-filter earlier P placed held)
    (All-cons P b (filter later placed) (All-head P b bs all) (All-filter later P placed held)) in
    All-placed P (in_place b placed) bs more (All-tail P b bs all)

pub All-in_order : (P : Booking → Type 0) (bookings : List Booking) → All P bookings → All P (in_order bookings)
All-in_order P bookings all = All-placed P [] bookings (λ k d within. absurd (omega arith)) all

-- what was put in its place stays, and so does what comes after it
placed-holds : (placed bookings : List Booking) (x : Booking) → Contains placed x ⊎ Contains bookings x → Contains (fold (λ sofar b. in_place b sofar) placed bookings) x
placed-holds placed [] x (inl held) = held
placed-holds placed [] x (inr held) = absurd (omega (arith, held.1))
placed-holds placed (b ∷ bs) x (inl held) = placed-holds (in_place b placed) bs x (inl (to_in_place b placed x (inr held)))
placed-holds placed (b ∷ bs) x (inr held) = elim (first_or_later b bs x held.0 held.1 held.2) [
  | inl here ↦ placed-holds (in_place b placed) bs x (inl (to_in_place b placed x (inl here)))
  | inr later ↦ placed-holds (in_place b placed) bs x (inr later)
]

-- a list in order holds just what the list holds
pub in_order-holds : (bookings : List Booking) (x : Booking) → Contains (in_order bookings) x ↔ Contains bookings x
in_order-holds bookings x = (
  λ h. All-contains (Contains bookings) (in_order bookings) x (All-in_order (Contains bookings) bookings (All-contains_itself bookings)) h,
  λ h. placed-holds [] bookings x (inr h),
)

-- what holds of all in order holds of them all
pub All-from_in_order : (P : Booking → Type 0) (bookings : List Booking) → All P (in_order bookings) → All P bookings
All-from_in_order P bookings all k d within =
    let here : Contains bookings (get_or bookings k d) = All-contains_itself bookings k d within in
    All-contains P (in_order bookings) (get_or bookings k d) all ((in_order-holds bookings (get_or bookings k d)).1 here)
