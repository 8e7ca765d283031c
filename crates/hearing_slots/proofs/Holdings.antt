-- Which bookings a calendar holds after one is put in or taken out, and which ones a day has.
use Rattle.std.proofs.Common.{◌≡◌, ◌⊎◌, ℕ, zero, suc, ◌<◌, ◌≤◌, ℤ, Bool, true, false, not, Some, List, [], ◌∷◌, length, get_or, sym, subst, arith, inl, inr, IfOk, Result, Ok, Err}
use Rattle.std.specs.List.{All, AllWithin, Contains, filter}
use Rattle.std.specs.List.Sorted.{IsPartitionPoint, IsPartitionedBy}
use Rattle.std.proofs.lemmas.Int.{ints}
use Rattle.std.proofs.lemmas.Bool.{cases_Bool, both_ways, not-true, not_from_false, false_from_ne_true}
use Rattle.std.proofs.lemmas.List.Elements.{All-contains, All-contains_itself, All-filter, filter_passes, Contains-append_left, Contains-append_right, Contains-append_cases}
use Rattle.hearing_slots.specs.declared.booking.Booking.{Booking}
use Rattle.hearing_slots.specs.Booking.{SharesSlot, is_of, is_on, begins_before}
use Rattle.hearing_slots.specs.Calendar.{IsCalendar, IsConflict, IsFree, HoldsWith, HoldsWithout, HoldsDay, on_day, in_place, without_motion, with_booking}
use Rattle.hearing_slots.specs.Laws.{OverlapIsASharedSlot, BookingKeepsCalendar, RemovalKeepsCalendar}
use Rattle.hearing_slots.proofs.Filters.{parted}
use Rattle.hearing_slots.proofs.Order.{begins_before-trans, SharesSlot-from_test, test_from_SharesSlot}
use Rattle.hearing_slots.proofs.CalendarLemmas.{IsCalendar-filter, IsCalendar-insert, in_place-at}

-- a filter keeps what passes
pub to_filter : {X : Type 0} (p : X → Bool) (xs : List X) (x : X) (k : ℕ) → k < length xs → get_or xs k x ≡ x → p x ≡ true → Contains (filter p xs) x
to_filter p [] x k within stands passes = absurd (omega arith)
to_filter p (y ∷ ys) x zero within stands passes =
    let here : p y ≡ true = subst (λ z. p z ≡ true) (sym stands) passes in
    rw here (0, omega arith, stands)
to_filter p (y ∷ ys) x (suc k) within stands passes =
    let rest : Contains (filter p ys) x = to_filter p ys x k (omega arith) stands passes in
    elim (cases_Bool (p y)) [
      | inl kept ↦ rw kept (Contains-append_right (y ∷ []) (filter p ys) x rest)
      | inr dropped ↦ rw dropped rest
    ]

-- and nothing else
pub from_filter : {X : Type 0} (p : X → Bool) (xs : List X) (x : X) → Contains (filter p xs) x → Contains xs x × (p x ≡ true)
from_filter p xs x h = (
  All-contains (Contains xs) (filter p xs) x (All-filter p (Contains xs) xs (All-contains_itself xs)) h,
  All-contains (λ y. p y ≡ true) (filter p xs) x (filter_passes p xs) h,
)

pub first_or_later : {X : Type 0} (y : X) (ys : List X) (x : X) (k : ℕ) → k < length (y ∷ ys) → get_or (y ∷ ys) k x ≡ x → (x ≡ y) ⊎ Contains ys x
first_or_later y ys x zero within stands = inl (sym stands)
first_or_later y ys x (suc k) within stands = inr (k, omega arith, stands)

-- what a list holds with one booking more
pub from_in_place : (b : Booking) (bookings : List Booking) (x : Booking) → Contains (in_place b bookings) x → (x ≡ b) ⊎ Contains bookings x
from_in_place b bookings x h =
    let earlier = filter (λ a. begins_before a b) bookings in
    let later = filter (λ a. not (begins_before a b)) bookings in
    elim (Contains-append_cases earlier (b ∷ later) x h) [
      | inl before ↦ inr (from_filter (λ a. begins_before a b) bookings x before).0
      | inr rest ↦ elim (first_or_later b later x rest.0 rest.1 rest.2) [
        | inl here ↦ inl here
        | inr behind ↦ inr (from_filter (λ a. not (begins_before a b)) bookings x behind).0
      ]
    ]

pub to_in_place : (b : Booking) (bookings : List Booking) (x : Booking) → (x ≡ b) ⊎ Contains bookings x → Contains (in_place b bookings) x
to_in_place b bookings x (inl here) =
    let earlier = filter (λ a. begins_before a b) bookings in
    let later = filter (λ a. not (begins_before a b)) bookings in
    Contains-append_right earlier (b ∷ later) x (0, omega arith, sym here)
to_in_place b bookings x (inr held) =
    let earlier = filter (λ a. begins_before a b) bookings in
    let later = filter (λ a. not (begins_before a b)) bookings in
    elim (cases_Bool (begins_before x b)) [
      | inl before ↦ Contains-append_left earlier (b ∷ later) x (to_filter (λ a. begins_before a b) bookings x held.0 held.1 held.2 before)
      | inr behind ↦
          let kept = to_filter (λ a. not (begins_before a b)) bookings x held.0 held.1 held.2 (not_from_false _ behind) in
          Contains-append_right earlier (b ∷ later) x (Contains-append_right (b ∷ []) later x kept)
    ]

pub without_motion-holds : (case motion : ℕ) (bookings : List Booking) → HoldsWithout case motion bookings (without_motion case motion bookings)
without_motion-holds case motion bookings x = (
  λ h. let parts = from_filter (λ b. not (is_of case motion b)) bookings x h in (parts.0, not-true _ parts.1),
  λ h. to_filter (λ b. not (is_of case motion b)) bookings x h.0.0 h.0.1 h.0.2 (not_from_false _ h.1),
)

pub with_booking-holds : (b : Booking) (bookings : List Booking) → HoldsWith b bookings (with_booking b bookings)
unfolding with_booking
with_booking-holds b bookings x =
    let others = without_motion b.case b.motion bookings in
    let held = without_motion-holds b.case b.motion bookings x in (
      λ h. elim (from_in_place b others x h) [ inl here ↦ inl here | inr other ↦ inr (held.0 other) ],
      λ h. to_in_place b others x (elim h [ inl here ↦ inl here | inr other ↦ inr (held.1 other) ]),
    )

pub on_day-holds : (day : ℤ) (bookings : List Booking) → HoldsDay day bookings (on_day day bookings)
on_day-holds day bookings x = (
  λ h. let parts = from_filter (is_on day) bookings x h in (parts.0, day_of parts.1),
  λ h. to_filter (is_on day) bookings x h.0.0 h.0.1 h.0.2 (on_it h.1),
) where
  day_of : is_on day x ≡ true → x.day ≡ day
  day_of h = grind (arith, ints)

  on_it : x.day ≡ day → is_on day x ≡ true
  on_it h = grind (arith, ints)

-- a list that parts at a test has a place where it does
pub parting : {X : Type 0} (p : X → Bool) (xs : List X) → IsPartitionedBy p xs → (i : ℕ) × (i ≤ length xs) × IsPartitionPoint (λ y. p y ≡ true) (λ y. p y ≡ false) xs i
parting p [] parts = (0, omega arith, (λ k d low high. absurd (omega arith), λ k d low high. absurd (omega arith)))
parting p (x ∷ xs) parts = elim (cases_Bool (p x)) [
  | inr fails ↦ (
    0,
    omega arith,
    (
      λ k d low high. absurd (omega arith),
      λ k d low high. false_from_ne_true _ (λ passes. let start : 0 ≤ k = omega arith in both_ways (p x) fails (parts 0 k d start high passes)),
    ),
  )
  | inl passes ↦
      let rest = parting p xs (λ i j d le within yes_there. let next : suc i ≤ suc j = omega arith in parts (suc i) (suc j) d next (omega arith) yes_there) in
      (suc rest.0, omega (arith, rest.1), (front p x xs rest.0 passes rest.2.0, back p x xs rest.0 rest.2.1))
] where
  front : {X : Type 0} (p : X → Bool) (x : X) (xs : List X) (i : ℕ) → p x ≡ true → AllWithin (λ y. p y ≡ true) xs 0 i → AllWithin (λ y. p y ≡ true) (x ∷ xs) 0 (suc i)
  front p x xs i passes rest zero d low high = passes
  front p x xs i passes rest (suc k) d low high = rest k d (omega arith) (omega arith)

  back : {X : Type 0} (p : X → Bool) (x : X) (xs : List X) (i : ℕ) → AllWithin (λ y. p y ≡ false) xs i (length xs) → AllWithin (λ y. p y ≡ false) (x ∷ xs) (suc i) (suc (length xs))
  back p x xs i rest zero d low high = absurd (omega arith)
  back p x xs i rest (suc k) d low high = rest k d (omega arith) (omega arith)

-- of the case and motion none is left
pub of_others : (case motion : ℕ) (bookings : List Booking) → All (λ a. is_of case motion a ≡ false) (without_motion case motion bookings)
of_others case motion bookings k d within = not-true _ (filter_passes (λ (a : Booking). not (is_of case motion a)) bookings k d within)

-- where a booking conflicts with none, none of other motions shares a slot with it
pub apart_from_others : (b : Booking) (bookings : List Booking) → IsFree bookings b.day b.first b.count (Some (b.case, b.motion)) → All (λ a. SharesSlot a b.day b.first b.count → ⊥) (without_motion b.case b.motion bookings)
apart_from_others b bookings free k d within shared =
    All-filter (λ (a : Booking). not (is_of b.case b.motion a)) (λ a. IsConflict b.day b.first b.count (Some (b.case, b.motion)) a → ⊥) bookings free k d within (of_others b.case b.motion bookings k d within, shared)

pub booking_keeps : BookingKeepsCalendar
unfolding with_booking
booking_keeps b bookings calendar within free =
    let others = without_motion b.case b.motion bookings in
    let left : IsCalendar others = IsCalendar-filter (λ (a : Booking). not (is_of b.case b.motion a)) bookings calendar in
    let in_order = λ (x y : Booking). begins_before x y ≡ true in
    let place = parting (λ a. begins_before a b) others (parted in_order (λ a. begins_before a b) others left.sorted (λ a d h k. begins_before-trans a d b h k)) in
    rw (in_place-at b others place.0 place.1 place.2) (IsCalendar-insert others place.0 b left within (apart_from_others b bookings free) (of_others b.case b.motion bookings) place.1 place.2)

pub removal_keeps : RemovalKeepsCalendar
removal_keeps case motion bookings calendar = IsCalendar-filter (λ b. not (is_of case motion b)) bookings calendar

pub overlap_is_shared : OverlapIsASharedSlot
overlap_is_shared b day first count some_b some = (SharesSlot-from_test b day first count some_b some, test_from_SharesSlot b day first count)

-- the same of what a call hands out
pub held_with : {E : Type 0} (b : Booking) (old : List Booking) (r : Result (List Booking) E) → IfOk r (λ new. new ≡ with_booking b old) → IfOk r (HoldsWith b old)
held_with b old (Ok new) same = subst (HoldsWith b old) (sym same) (with_booking-holds b old)
held_with b old (Err e) same = tt

pub held_without : {E : Type 0} (case motion : ℕ) (old : List Booking) (r : Result (List Booking) E) → IfOk r (λ new. new ≡ without_motion case motion old) → IfOk r (HoldsWithout case motion old)
held_without case motion old (Ok new) same = subst (HoldsWithout case motion old) (sym same) (without_motion-holds case motion old)
held_without case motion old (Err e) same = tt
