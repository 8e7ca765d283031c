-- A booking of a calendar is where those that begin before it end.
use Rattle.std.proofs.Common.{◌≡◌, ℕ, suc, ◌<◌, ◌≤◌, true, false, not, Some, List, ◌∷◌, ◌++◌, length, get_or, take, drop, sym, ap, ◌∙◌, subst, arith, inl, inr, drop-cons, take-append-drop}
use Rattle.std.specs.List.{All, filter, find, remove}
use Rattle.std.specs.List.Sorted.{IsPartitionPoint}
use Rattle.std.proofs.lemmas.Int.{ints}
use Rattle.std.proofs.lemmas.Bool.{cases_order, both_ways, not_from_false}
use Rattle.std.proofs.lemmas.List.{get_or_default}
use Rattle.std.proofs.lemmas.List.Elements.{filter-append}
use Rattle.hearing_slots.specs.declared.booking.Booking.{Booking}
use Rattle.hearing_slots.specs.Booking.{is_of, begins_before}
use Rattle.hearing_slots.specs.Calendar.{IsCalendar, without_motion}
use Rattle.hearing_slots.proofs.Filters.{All-front, All-back, filter_all}
use Rattle.hearing_slots.proofs.Finds.{IsFirst, find-Some}

-- no booking begins before itself
not_before_itself : (b : Booking) → begins_before b b ≡ false
not_before_itself b = grind (arith, ints)

other_motion_too : (case motion : ℕ) (a b : Booking) → is_of case motion a ≡ true → is_of a.case a.motion b ≡ false → is_of case motion b ≡ false
other_motion_too case motion a b h k = grind arith

module _ (bookings : List Booking) (gone : Booking) (calendar : IsCalendar bookings) (found : IsFirst (is_of gone.case gone.motion) bookings gone) where
  stands_at : (d : Booking) → get_or bookings found.place d ≡ gone
  stands_at d = get_or_default bookings found.place d gone found.within ∙ found.stands

  -- the place is where those that begin before the booking end
  pub place_is : (i : ℕ) → i ≤ length bookings → IsPartitionPoint (λ a. begins_before a gone ≡ true) (λ a. begins_before a gone ≡ false) bookings i → found.place ≡ i
  place_is i le point = elim (cases_order found.place i) [
    | inl same ↦ same
    | inr apart ↦ elim apart [
      | inl before ↦
          let low : 0 ≤ found.place = omega arith in
          let earlier = subst (λ (a : Booking). begins_before a gone ≡ true) (stands_at gone) (point.0 found.place gone low before) in
          absurd (both_ways _ (not_before_itself gone) earlier)
      | inr behind ↦
          let low : i ≤ i = omega arith in
          let high : i < length bookings = omega (arith, found.within) in
          let late = point.1 i gone low high in
          let early = subst (λ (a : Booking). begins_before (get_or bookings i gone) a ≡ true) (stands_at gone) (calendar.sorted i found.place gone behind found.within) in
          absurd (both_ways _ late early)
    ]
  ]

  -- the others are before it and after it
  front : All (λ b. not (is_of gone.case gone.motion b) ≡ true) (take found.place bookings)
  front = All-front (λ b. not (is_of gone.case gone.motion b) ≡ true) bookings found.place (λ k d low high. not_from_false _ (found.first k d high))

  back : All (λ b. not (is_of gone.case gone.motion b) ≡ true) (drop (suc found.place) bookings)
  back = All-back (λ b. not (is_of gone.case gone.motion b) ≡ true) bookings (suc found.place) (omega (arith, found.within)) (λ k d low high.
      let behind : found.place < k = omega arith in
      let differ = subst (λ (a : Booking). is_of a.case a.motion (get_or bookings k d) ≡ false) (stands_at d) (calendar.once found.place k d behind high) in
      not_from_false _ (other_motion_too gone.case gone.motion gone (get_or bookings k d) found.passes differ))

  pub removed : without_motion gone.case gone.motion bookings ≡ remove bookings found.place
  removed =
      let other = λ (b : Booking). not (is_of gone.case gone.motion b) in
      let before = take found.place bookings in
      let behind = drop (suc found.place) bookings in
      let cut : bookings ≡ before ++ gone ∷ behind = sym (take-append-drop found.place bookings) ∙ ap (λ ys. before ++ ys) (drop-cons bookings found.place gone found.within ∙ ap (λ (b : Booking). b ∷ behind) (stands_at gone)) in
      ap (filter other) cut
      ∙ filter-append other before (gone ∷ behind)
      ∙ ap (λ ys. ys ++ filter other (gone ∷ behind)) (filter_all other before front)
      ∙ ap (λ ys. before ++ ys) (rw found.passes (filter_all other behind back))

-- what a search by halves finds is taken out
pub taken_out : (bookings : List Booking) (gone : Booking) (i : ℕ) → IsCalendar bookings → find (is_of gone.case gone.motion) bookings ≡ Some gone → i ≤ length bookings → IsPartitionPoint (λ a. begins_before a gone ≡ true) (λ a. begins_before a gone ≡ false) bookings i → (i < length bookings) × (remove bookings i ≡ without_motion gone.case gone.motion bookings)
taken_out bookings gone i calendar h le point =
    let found = find-Some (is_of gone.case gone.motion) bookings gone h in
    let same : found.place ≡ i = place_is bookings gone calendar found i le point in
    (subst (λ (n : ℕ). n < length bookings) same found.within, ap (remove bookings) (sym same) ∙ sym (removed bookings gone calendar found))

-- what is found is the booking of the case and motion
pub found_own : (case motion : ℕ) (bookings : List Booking) (gone : Booking) → find (is_of case motion) bookings ≡ Some gone → (gone.case ≡ case) × (gone.motion ≡ motion)
found_own case motion bookings gone h =
    let passes = (find-Some (is_of case motion) bookings gone h).passes in
    (grind arith, grind arith)

-- so it is found by its own case and motion
pub found_by_own : (case motion : ℕ) (bookings : List Booking) (gone : Booking) → find (is_of case motion) bookings ≡ Some gone → find (is_of gone.case gone.motion) bookings ≡ Some gone
found_by_own case motion bookings gone h =
    let own = found_own case motion bookings gone h in
    subst (λ (c : ℕ). find (is_of c gone.motion) bookings ≡ Some gone) (sym own.0) (subst (λ (m : ℕ). find (is_of case m) bookings ≡ Some gone) (sym own.1) h)

-- and the bookings without its own case and motion are those without the case and motion
pub without_own : (case motion : ℕ) (bookings : List Booking) (gone : Booking) → find (is_of case motion) bookings ≡ Some gone → without_motion gone.case gone.motion bookings ≡ without_motion case motion bookings
without_own case motion bookings gone h =
    let own = found_own case motion bookings gone h in
    ap (λ (c : ℕ). without_motion c gone.motion bookings) own.0 ∙ ap (λ (m : ℕ). without_motion case m bookings) own.1
