-- Bookings of the days of one block, between those of earlier blocks and those of later ones.
use Rattle.std.proofs.Common.{◌≡◌, ◌⊎◌, ℕ, ◌+◌, ℤ, pos, negsuc, ◌<ℤ◌, true, false, not, Option, Some, None, option_map, List, ◌∷◌, ◌++◌, length, get_or, refl, sym, ap, ◌∙◌, subst, arith, inl, inr}
use Rattle.std.specs.List.{All, filter, find}
use Rattle.std.proofs.lemmas.Int.{ints}
use Rattle.std.proofs.lemmas.Bool.{cases_Bool, both_ways, not_from_true, not_from_false}
use Rattle.std.proofs.lemmas.List.{append-nil, append_assoc, get_or_append_left, get_or-append-add, length-append}
use Rattle.std.proofs.lemmas.List.Elements.{All-append, All-cons, All-filter, filter-append, filter_passes}
use Rattle.hearing_slots.specs.declared.booking.Booking.{Booking}
use Rattle.hearing_slots.specs.Booking.{is_of, is_on, begins_before}
use Rattle.hearing_slots.specs.Calendar.{IsCalendar, IsConflict, IsFree, conflicts, first_conflict, in_place, on_day, with_booking, without_motion}
use Rattle.hearing_slots.specs.Inside.Blocks.{LiesIn, block_of}
use Rattle.hearing_slots.specs.Inside.DayNotes.{booked_day}
use Rattle.hearing_slots.proofs.Filters.{filter_all, filter_none, find-filter}
use Rattle.hearing_slots.proofs.Finds.{filter_absent, find-None}
use Rattle.hearing_slots.proofs.Order.{conflicts-on_day}
use Rattle.hearing_slots.proofs.DayLemmas.{not_on, of_one_day}
use Rattle.hearing_slots.proofs.MotionLemmas.{none_left}

-- a day of an earlier block is an earlier day
pub earlier_day : (a b : ℤ) → block_of a <ℤ block_of b → a <ℤ b
earlier_day (pos a) (pos b) h = omega (arith, ints, h)
earlier_day (pos a) (negsuc b) h = omega (arith, ints, h)
earlier_day (negsuc a) (pos b) h = omega (arith, ints, h)
earlier_day (negsuc a) (negsuc b) h = omega (arith, ints, h)

begins_earlier : (a b : Booking) → a.day <ℤ b.day → begins_before a b ≡ true
begins_earlier a b h = grind (arith, ints)

begins_later : (a b : Booking) → b.day <ℤ a.day → begins_before a b ≡ false
begins_later a b h = grind (arith, ints)

-- what holds of all bookings holds of a part of them
all_left : {X : Type 0} (P : X → Type 0) (xs ys : List X) → All P (xs ++ ys) → All P xs
all_left P xs ys h k d within = subst P (get_or_append_left xs ys d k within) (h k d (omega (arith, length-append xs ys)))

all_right : {X : Type 0} (P : X → Type 0) (xs ys : List X) → All P (xs ++ ys) → All P ys
all_right P xs ys h k d within = subst P (get_or-append-add xs ys k d) (h (length xs + k) d (omega (arith, length-append xs ys)))

pub all_here : {X : Type 0} (P : X → Type 0) (front here rest : List X) → All P (front ++ (here ++ rest)) → All P here
all_here P front here rest h = all_left P here rest (all_right P front (here ++ rest) h)

module _ (number : ℤ) (front rest : List Booking) (before : All (λ x. block_of x.day <ℤ number) front) (after : All (λ x. number <ℤ block_of x.day) rest) where
  not_of_front : (day : ℤ) → block_of day ≡ number → All (λ x. is_on day x ≡ false) front
  not_of_front day same k d within = not_on day (get_or front k d) (λ on. let less = before k d within in let block = ap block_of on in omega (arith, ints, less, block, same))

  not_of_rest : (day : ℤ) → block_of day ≡ number → All (λ x. is_on day x ≡ false) rest
  not_of_rest day same k d within = not_on day (get_or rest k d) (λ on. let more = after k d within in let block = ap block_of on in omega (arith, ints, more, block, same))

  -- the bookings of a day of the block
  pub on_day-around : (here : List Booking) (day : ℤ) → block_of day ≡ number → on_day day (front ++ (here ++ rest)) ≡ on_day day here
  on_day-around here day same =
      let p = is_on day in
      filter-append p front (here ++ rest)
      ∙ ap (λ (ys : List Booking). ys ++ filter p (here ++ rest)) (filter_none p front (not_of_front day same))
      ∙ filter-append p here rest
      ∙ ap (λ (ys : List Booking). filter p here ++ ys) (filter_none p rest (not_of_rest day same))
      ∙ append-nil (filter p here)

  -- a motion's booking that lies in the block is taken out of it
  not_its_front : (case motion : ℕ) (here : List Booking) → LiesIn number case motion (front ++ (here ++ rest)) → All (λ x. not (is_of case motion x) ≡ true) front
  not_its_front case motion here lies k d within = elim (cases_Bool (is_of case motion (get_or front k d))) [
    | inl its ↦
        let block = all_left (λ x. is_of case motion x ≡ true → block_of x.day ≡ number) front (here ++ rest) lies.each k d within its in
        let less = before k d within in
        absurd (omega (arith, ints, less, block))
    | inr other ↦ not_from_false _ other
  ]

  not_its_rest : (case motion : ℕ) (here : List Booking) → LiesIn number case motion (front ++ (here ++ rest)) → All (λ x. not (is_of case motion x) ≡ true) rest
  not_its_rest case motion here lies k d within = elim (cases_Bool (is_of case motion (get_or rest k d))) [
    | inl its ↦
        let block = all_right (λ x. is_of case motion x ≡ true → block_of x.day ≡ number) here rest (all_right (λ x. is_of case motion x ≡ true → block_of x.day ≡ number) front (here ++ rest) lies.each) k d within its in
        let more = after k d within in
        absurd (omega (arith, ints, more, block))
    | inr other ↦ not_from_false _ other
  ]

  pub without_motion-around : (case motion : ℕ) (here : List Booking) → LiesIn number case motion (front ++ (here ++ rest)) → without_motion case motion (front ++ (here ++ rest)) ≡ front ++ (without_motion case motion here ++ rest)
  without_motion-around case motion here lies =
      let p = λ (x : Booking). not (is_of case motion x) in
      filter-append p front (here ++ rest)
      ∙ ap (λ (ys : List Booking). ys ++ filter p (here ++ rest)) (filter_all p front (not_its_front case motion here lies))
      ∙ ap (λ (ys : List Booking). front ++ ys) (filter-append p here rest ∙ ap (λ (ys : List Booking). filter p here ++ ys) (filter_all p rest (not_its_rest case motion here lies)))

  -- and a booking of one of its days is put into it
  earlier : (b : Booking) → block_of b.day ≡ number → All (λ x. begins_before x b ≡ true) front
  earlier b same k d within =
      let less = before k d within in
      begins_earlier (get_or front k d) b (earlier_day (get_or front k d).day b.day (subst (λ (n : ℤ). block_of (get_or front k d).day <ℤ n) (sym same) less))

  later : (b : Booking) → block_of b.day ≡ number → All (λ x. begins_before x b ≡ false) rest
  later b same k d within =
      let more = after k d within in
      begins_later (get_or rest k d) b (earlier_day b.day (get_or rest k d).day (subst (λ (n : ℤ). n <ℤ block_of (get_or rest k d).day) (sym same) more))

  in_place-around : (b : Booking) (here : List Booking) → block_of b.day ≡ number → in_place b (front ++ (here ++ rest)) ≡ front ++ (in_place b here ++ rest)
  in_place-around b here same =
      let p = λ (a : Booking). begins_before a b in
      let q = λ (a : Booking). not (begins_before a b) in
      let whole = front ++ (here ++ rest) in
      let first : filter p whole ≡ front ++ filter p here =
      filter-append p front (here ++ rest)
      ∙ ap (λ (ys : List Booking). ys ++ filter p (here ++ rest)) (filter_all p front (earlier b same))
      ∙ ap (λ (ys : List Booking). front ++ ys) (filter-append p here rest ∙ ap (λ (ys : List Booking). filter p here ++ ys) (filter_none p rest (later b same)) ∙ append-nil (filter p here)) in
      let last : filter q whole ≡ filter q here ++ rest =
      filter-append q front (here ++ rest)
      ∙ ap (λ (ys : List Booking). ys ++ filter q (here ++ rest)) (filter_none q front (λ k d within. not_from_true _ (earlier b same k d within)))
      ∙ filter-append q here rest
      ∙ ap (λ (ys : List Booking). filter q here ++ ys) (filter_all q rest (λ k d within. not_from_false _ (later b same k d within))) in
      ap (λ (ys : List Booking). ys ++ b ∷ filter q whole) first
      ∙ ap (λ (ys : List Booking). (front ++ filter p here) ++ b ∷ ys) last
      ∙ append_assoc front (filter p here) (b ∷ (filter q here ++ rest))
      ∙ ap (λ (ys : List Booking). front ++ ys) (sym (append_assoc (filter p here) (b ∷ filter q here) rest))

  pub with_booking-around : (b : Booking) (here : List Booking) → block_of b.day ≡ number → LiesIn number b.case b.motion (front ++ (here ++ rest)) → with_booking b (front ++ (here ++ rest)) ≡ front ++ (with_booking b here ++ rest)
  unfolding with_booking
  with_booking-around b here same lies =
      ap (in_place b) (without_motion-around b.case b.motion here lies)
      ∙ in_place-around b (without_motion b.case b.motion here) same

-- all bookings stay in the block
pub own-without_motion : (number : ℤ) (case motion : ℕ) (here : List Booking) → All (λ x. block_of x.day ≡ number) here → All (λ x. block_of x.day ≡ number) (without_motion case motion here)
own-without_motion number case motion here own = All-filter (λ b. not (is_of case motion b)) (λ x. block_of x.day ≡ number) here own

pub own-with_booking : (number : ℤ) (b : Booking) (here : List Booking) → block_of b.day ≡ number → All (λ x. block_of x.day ≡ number) here → All (λ x. block_of x.day ≡ number) (with_booking b here)
unfolding with_booking
own-with_booking number b here same own =
    let P = λ (x : Booking). block_of x.day ≡ number in
    let others = without_motion b.case b.motion here in
    let left = own-without_motion number b.case b.motion here own in
    All-append P (filter (λ a. begins_before a b) others) (b ∷ filter (λ a. not (begins_before a b)) others)
    (All-filter (λ a. begins_before a b) P others left)
    (All-cons P b (filter (λ a. not (begins_before a b)) others) same (All-filter (λ a. not (begins_before a b)) P others left))

-- lists with the same bookings on a day have the same first conflict on it
pub first_conflict-on_day : (xs ys : List Booking) (day : ℤ) (first count : ℕ) (except : Option (ℕ × ℕ)) → on_day day xs ≡ on_day day ys → first_conflict xs day first count except ≡ first_conflict ys day first count except
unfolding first_conflict
first_conflict-on_day xs ys day first count except same =
    let test = conflicts day first count except in
    let on = conflicts-on_day day first count except in
    sym (find-filter test (is_on day) on xs) ∙ ap (find test) same ∙ find-filter test (is_on day) on ys

-- the booking of a motion lies in the block of its day
booked : (o : Option Booking) (day : ℤ) → option_map (λ (b : Booking). b.day) o ≡ Some day → (gone : Booking) × (o ≡ Some gone) × (gone.day ≡ day)
booked None day h = absurd cc
booked (Some gone) day h = (gone, refl, cc)

not_booked : (o : Option Booking) → option_map (λ (b : Booking). b.day) o ≡ None → o ≡ None
not_booked None h = refl
not_booked (Some gone) h = absurd cc

pub LiesIn-booked : (case motion : ℕ) (bookings : List Booking) (day : ℤ) → IsCalendar bookings → booked_day case motion bookings ≡ Some day → LiesIn (block_of day) case motion bookings
LiesIn-booked case motion bookings day calendar h =
    let found = booked (find (is_of case motion) bookings) day h in
    record { each = λ k d within its. ap block_of (of_one_day case motion bookings found.0 calendar found.1 k d within its ∙ found.2) }

-- where it has none, no booking is of the motion
pub LiesIn-absent : (number : ℤ) (case motion : ℕ) (bookings : List Booking) → booked_day case motion bookings ≡ None → LiesIn number case motion bookings
LiesIn-absent number case motion bookings h =
    let none = find-None (is_of case motion) bookings (not_booked (find (is_of case motion) bookings) h) in
    record { each = λ k d within its. absurd (both_ways _ (none k d within) its) }

pub LiesIn-without : (number : ℤ) (case motion : ℕ) (bookings : List Booking) → LiesIn number case motion (without_motion case motion bookings)
LiesIn-without number case motion bookings = record { each = λ k d within its. absurd (both_ways _ (none_left case motion bookings k d within) its) }

pub without_motion-not_booked : (case motion : ℕ) (bookings : List Booking) → booked_day case motion bookings ≡ None → without_motion case motion bookings ≡ bookings
without_motion-not_booked case motion bookings h = filter_absent (is_of case motion) bookings (not_booked (find (is_of case motion) bookings) h)

-- bookings from which an older one of the motion was taken out, or not, give the same with the new one
pub with_either : (b : Booking) (old left : List Booking) → (left ≡ old) ⊎ (left ≡ without_motion b.case b.motion old) → with_booking b left ≡ with_booking b old
unfolding with_booking
with_either b old left (inl same) = ap (with_booking b) same
with_either b old left (inr out) =
    ap (with_booking b) out
    ∙ ap (in_place b) (filter_all (λ x. not (is_of b.case b.motion x)) (without_motion b.case b.motion old) (filter_passes (λ x. not (is_of b.case b.motion x)) old))

-- and the new one conflicts with none of them
pub free_of_either : (b : Booking) (old left : List Booking) → (left ≡ old) ⊎ (left ≡ without_motion b.case b.motion old) → IsFree old b.day b.first b.count (Some (b.case, b.motion)) → IsFree left b.day b.first b.count (Some (b.case, b.motion))
free_of_either b old left (inl same) free = subst (λ (bookings : List Booking). IsFree bookings b.day b.first b.count (Some (b.case, b.motion))) (sym same) free
free_of_either b old left (inr out) free =
    subst (λ (bookings : List Booking). IsFree bookings b.day b.first b.count (Some (b.case, b.motion))) (sym out) (All-filter (λ x. not (is_of b.case b.motion x)) (λ x. IsConflict b.day b.first b.count (Some (b.case, b.motion)) x → ⊥) old free)
