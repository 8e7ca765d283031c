-- The least of some bookings.
use Rattle.std.proofs.Common.{◌≡◌, ℕ, ◌+◌, ◌-◌, ◌<◌, ◌≤◌, Bool, List, [], ◌∷◌, ◌++◌, drop, filter, flat_map, get_or, length, take, Option, Some, refl, ap, sym, ◌∙◌, arith, add-one}
use Rattle.std.specs.List.{range_with_len}
use Rattle.std.specs.Option.{option_map_or}
use Rattle.std.proofs.lemmas.List.{take_all}
use Rattle.std.proofs.lemmas.List.Elements.{filter-append}
use Rattle.hearing_slots.specs.declared.booking.Booking.{Booking}
use Rattle.hearing_slots.specs.Words.{BlockView, all_in}
use Rattle.docket_rows.specs.Words.{least, lesser}
use Rattle.docket_decisions.specs.Inside.Holidays.{least_before}

pub least_before-append : (xs ys : List Booking) (o : Option Booking) → least_before (xs ++ ys) o ≡ least_before xs (least_before ys o)
least_before-append [] ys o = refl
least_before-append (x ∷ xs) ys o = ap (λ r. Some (option_map_or (lesser x) r x)) (least_before-append xs ys o)

-- the first of two lists of bookings that pass a test
pub first_of_both : (p : Booking → Bool) (xs ys : List Booking) (o : Option Booking) → least_before (filter p (xs ++ ys)) o ≡ least_before (filter p xs) (least_before (filter p ys) o)
first_of_both p xs ys o = ap (λ (bs : List Booking). least_before bs o) (filter-append p xs ys) ∙ least_before-append (filter p xs) (filter p ys) o

-- the bookings of the first block, and those of the others
pub first_block : (blocks : List BlockView) (b : BlockView) → 1 ≤ length blocks → b ≡ get_or blocks 0 b → b.bookings ++ all_in (take (length blocks - 1) (drop 1 blocks)) ≡ all_in blocks
first_block [] b some here = absurd (omega (arith, some))
first_block (x ∷ xs) b some here =
    let rest : take (length (x ∷ xs) - 1) (drop 1 (x ∷ xs)) ≡ xs = take_all (length (x ∷ xs) - 1) xs (omega arith) in
    ap (λ (y : BlockView). y.bookings ++ all_in (take (length (x ∷ xs) - 1) (drop 1 (x ∷ xs)))) here
    ∙ ap (λ (bs : List BlockView). x.bookings ++ all_in bs) rest

-- the least of some bookings and the least of the others
pub least-append : (xs ys : List Booking) → least (xs ++ ys) ≡ least_before xs (least ys)
least-append [] ys = refl
least-append (x ∷ xs) ys = ap (λ r. Some (option_map_or (lesser x) r x)) (least-append xs ys)

-- one more judge in front
pub least_of_more : (p : Booking → Bool) (f : ℕ → List Booking) (j n : ℕ) → least_before (filter p (f j)) (least (filter p (flat_map f (range_with_len (j + 1) n)))) ≡ least (filter p (flat_map f (range_with_len j (n + 1))))
least_of_more p f j n =
    rw (add-one n) (rw filter-append (sym (least-append (filter p (f j)) (filter p (flat_map f (range_with_len (j + 1) n))))))

-- the same, where the judges from this one on were searched
pub more_judges : (p : Booking → Bool) (f : ℕ → List Booking) (judge judges : ℕ) (others r : Option Booking) (bs : List Booking) → 0 < judge → judge ≤ judges → bs ≡ f (judge - 1) → others ≡ least (filter p (flat_map f (range_with_len judge (judges - judge)))) → r ≡ least_before (filter p bs) others → r ≡ least (filter p (flat_map f (range_with_len (judge - 1) (judges - (judge - 1)))))
more_judges p f judge judges others r bs some within here there found =
    let next : judge ≡ (judge - 1) + 1 = omega arith in
    let left : (judges - judge) + 1 ≡ judges - (judge - 1) = omega arith in
    found
    ∙ ap (λ (xs : List Booking). least_before (filter p xs) others) here
    ∙ ap (λ (o : Option Booking). least_before (filter p (f (judge - 1))) o) (there ∙ ap (λ (m : ℕ). least (filter p (flat_map f (range_with_len m (judges - judge))))) next)
    ∙ least_of_more p f (judge - 1) (judges - judge)
    ∙ ap (λ (m : ℕ). least (filter p (flat_map f (range_with_len (judge - 1) m)))) left
