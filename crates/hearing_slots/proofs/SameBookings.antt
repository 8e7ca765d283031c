-- Two calendars that hold the same bookings are the same.
use Rattle.std.proofs.Common.{◌≡◌, ◌⊎◌, ℕ, zero, suc, ◌<◌, true, List, [], ◌∷◌, length, get_or, refl, sym, ap, ◌∙◌, subst, arith, inl, inr}
use Rattle.std.specs.List.{All, AllPairs, Contains}
use Rattle.std.proofs.lemmas.Int.{ints}
use Rattle.std.proofs.lemmas.List.Elements.{All-contains, Contains-append_right}
use Rattle.hearing_slots.specs.declared.booking.Booking.{Booking}
use Rattle.hearing_slots.specs.Booking.{begins_before}
use Rattle.hearing_slots.specs.Laws.{SameBookingsSameCalendar}

abbrev InOrder : List Booking → Type 0
InOrder bookings = AllPairs (λ a b. begins_before a b ≡ true) bookings

-- no booking begins before one that begins before it
not_both : (a b : Booking) → begins_before a b ≡ true → begins_before b a ≡ true → ⊥
not_both a b h k = grind (arith, ints)

head_first : (x : Booking) (xs : List Booking) → InOrder (x ∷ xs) → All (λ b. begins_before x b ≡ true) xs
head_first x xs h k d within = let next : 0 < suc k = omega arith in h 0 (suc k) d next (omega arith)

tail_in_order : (x : Booking) (xs : List Booking) → InOrder (x ∷ xs) → InOrder xs
tail_in_order x xs h i j d before within = let next : suc i < suc j = omega arith in h (suc i) (suc j) d next (omega arith)

first_or_later : (y : Booking) (ys : List Booking) (x : Booking) (k : ℕ) → k < length (y ∷ ys) → get_or (y ∷ ys) k x ≡ x → (x ≡ y) ⊎ Contains ys x
first_or_later y ys x zero within stands = inl (sym stands)
first_or_later y ys x (suc k) within stands = inr (k, omega arith, stands)

here : (x : Booking) (xs : List Booking) → Contains (x ∷ xs) x
here x xs = (0, omega arith, refl)

later : (x : Booking) (xs : List Booking) (z : Booking) → Contains xs z → Contains (x ∷ xs) z
later x xs z h = Contains-append_right (x ∷ []) xs z h

-- the first bookings of two lists in order are the same where each list holds that of the other
same_first : (x : Booking) (xs : List Booking) (y : Booking) (ys : List Booking) → InOrder (x ∷ xs) → InOrder (y ∷ ys) → (x ≡ y) ⊎ Contains ys x → (y ≡ x) ⊎ Contains xs y → x ≡ y
same_first x xs y ys hx hy (inl same) k = same
same_first x xs y ys hx hy (inr behind) (inl same) = sym same
same_first x xs y ys hx hy (inr behind) (inr too) =
    absurd (not_both x y
    (All-contains (λ b. begins_before x b ≡ true) xs y (head_first x xs hx) too)
    (All-contains (λ b. begins_before y b ≡ true) ys x (head_first y ys hy) behind))

-- what the one list holds after its first booking the other holds after its own
rest_held : (x : Booking) (xs ys : List Booking) (z : Booking) → InOrder (x ∷ xs) → Contains xs z → (z ≡ x) ⊎ Contains ys z → Contains ys z
rest_held x xs ys z h held (inr behind) = behind
rest_held x xs ys z h held (inl same) =
    let after : begins_before x z ≡ true = All-contains (λ b. begins_before x b ≡ true) xs z (head_first x xs h) held in
    let itself : begins_before x x ≡ true = subst (λ (b : Booking). begins_before x b ≡ true) same after in
    absurd (not_both x x itself itself)

same_lists : (xs ys : List Booking) → InOrder xs → InOrder ys → ((z : Booking) → Contains xs z → Contains ys z) → ((z : Booking) → Contains ys z → Contains xs z) → xs ≡ ys
same_lists [] [] hx hy to from = refl
same_lists [] (y ∷ ys) hx hy to from = let held = from y (here y ys) in absurd (omega (arith, held.1))
same_lists (x ∷ xs) [] hx hy to from = let held = to x (here x xs) in absurd (omega (arith, held.1))
same_lists (x ∷ xs) (y ∷ ys) hx hy to from =
    let of_x = to x (here x xs) in
    let of_y = from y (here y ys) in
    let same : x ≡ y = same_first x xs y ys hx hy (first_or_later y ys x of_x.0 of_x.1 of_x.2) (first_or_later x xs y of_y.0 of_y.1 of_y.2) in
    let rest : xs ≡ ys = same_lists xs ys (tail_in_order x xs hx) (tail_in_order y ys hy)
    (λ z held. let there = to z (later x xs z held) in
    rest_held x xs ys z hx held (subst (λ (b : Booking). (z ≡ b) ⊎ Contains ys z) (sym same) (first_or_later y ys z there.0 there.1 there.2)))
    (λ z held. let there = from z (later y ys z held) in
    rest_held y ys xs z hy held (subst (λ (b : Booking). (z ≡ b) ⊎ Contains xs z) same (first_or_later x xs z there.0 there.1 there.2))) in
    ap (λ (b : Booking). b ∷ xs) same ∙ ap (λ (bs : List Booking). y ∷ bs) rest

pub same_bookings : SameBookingsSameCalendar
same_bookings xs ys hx hy held = same_lists xs ys hx.sorted hy.sorted (λ z. (held z).0) (λ z. (held z).1)
