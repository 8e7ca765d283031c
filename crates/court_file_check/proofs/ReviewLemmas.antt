-- Which days a review has: those of the span that pass, in their order.
use Rattle.std.proofs.Common.{◌≡◌, ◌<◌, ℕ, zero, suc, ℤ, pos, ◌+ℤ◌, ◌-ℤ◌, ◌≤ℤ◌, ◌<ℤ◌, unsigned_abs, Bool, true, false, List, [], ◌∷◌, length, get_or, filter, cond, arith, ap, sym, subst, ◌∙◌, zero-add}
use Rattle.std.specs.List.{Contains}
use Rattle.std.proofs.lemmas.Int.{ints}
use Rattle.std.proofs.lemmas.List.Elements.{All-filter, Contains-get_or, filter_passes}
use Rattle.std.proofs.lemmas.List.FromFn.{get_or-map-range_with_len, length-map-range_with_len}
use Rattle.std.proofs.lemmas.List.Kept.{AllPairs-filter}
use Rattle.court_clock.specs.Words.{days_through}
use Rattle.court_clock.proofs.CallerLemmas.{place_from_first, distance_within}
use Rattle.court_days.specs.Words.{DaysView, is_covered}
use Rattle.court_file_check.specs.Review.{days_from, days_that, passes, ReviewIsExact, ReviewIsInOrder}

-- what a filter keeps is there and passes
kept_is : {X : Type 0} (p : X → Bool) (xs : List X) (x : X) → Contains (filter p xs) x → Contains xs x × (p x ≡ true)
kept_is p xs x has =
    let k = has.0 in
    let within = has.1 in
    (subst (Contains xs) has.2 (All-filter p (Contains xs) xs (λ i d below. Contains-get_or xs i d below) k x within), subst (λ y. p y ≡ true) has.2 (filter_passes p xs k x within))

has_more : {X : Type 0} (x y : X) (ys : List X) → Contains ys x → Contains (y ∷ ys) x
has_more x y ys has = let below = has.1 in (suc has.0, omega (arith, below), has.2)

-- and what is there and passes is kept
stays : {X : Type 0} (p : X → Bool) (xs : List X) (x : X) (k : ℕ) → k < length xs → get_or xs k x ≡ x → p x ≡ true → Contains (filter p xs) x
stays p [] x k below is told = absurd (omega (arith, below))
stays p (y ∷ ys) x zero below is told = let first : p y ≡ true = ap p is ∙ told in rw first (0, omega arith, is)
stays p (y ∷ ys) x (suc k) below is told = go (p y) (stays p ys x k (omega (arith, below)) is told) where
  go : (b : Bool) → Contains (filter p ys) x → Contains (cond b (y ∷ filter p ys) (filter p ys)) x
  go true rest = has_more x y (filter p ys) rest
  go false rest = rest

covered_low : (c : DaysView) (d : ℤ) → is_covered c d ≡ true → c.from ≤ℤ d
covered_low c d covered = grind (arith, ints)

covered_high : (c : DaysView) (d : ℤ) → is_covered c d ≡ true → d ≤ℤ c.to
covered_high c d covered = grind (arith, ints)

covered_between : (c : DaysView) (d : ℤ) → c.from ≤ℤ d → d ≤ℤ c.to → is_covered c d ≡ true
covered_between c d low high = grind (arith, ints)

day_at_place : (first : ℤ) (n k : ℕ) (d : ℤ) → k < n → get_or (days_from first n) k d ≡ first +ℤ pos k
day_at_place first n k d within = get_or-map-range_with_len (λ j. first +ℤ pos j) 0 n k k d within (zero-add k)

count_of_days : (first : ℤ) (n : ℕ) → length (days_from first n) ≡ n
count_of_days first n = length-map-range_with_len (λ j. first +ℤ pos j) 0 n

pub review_is_exact : ReviewIsExact
unfolding days_that
review_is_exact c test d = (
  (λ has.
      let n = days_through c.from c.to in
      let kept = kept_is (passes c test) (days_from c.from n) d has in
      let k = kept.0.0 in
      let long = count_of_days c.from n in
      let below = kept.0.1 in
      let within : k < n = omega (arith, long, below) in
      let is : c.from +ℤ pos k ≡ d = sym (day_at_place c.from n k d within) ∙ kept.0.2 in
      let last = place_from_first c.from c.to k within in
      (covered_between c d (omega (arith, ints, is)) (omega (arith, ints, is, last)), kept.1)),
  (λ h.
      let n = days_through c.from c.to in
      let low = covered_low c d h.0 in
      let high = covered_high c d h.0 in
      let k : ℕ = unsigned_abs (d -ℤ c.from) in
      let is : c.from +ℤ pos k ≡ d = omega (arith, ints, low) in
      let near : pos k ≤ℤ (c.to -ℤ c.from) = omega (arith, ints, low, high) in
      let within = distance_within c.from c.to k (omega (arith, ints, low, high)) near in
      let long = count_of_days c.from n in
      stays (passes c test) (days_from c.from n) d k (omega (arith, long, within)) (day_at_place c.from n k d within ∙ is) h.1),
)

pub review_is_in_order : ReviewIsInOrder
unfolding days_that
review_is_in_order c test =
    let n = days_through c.from c.to in
    AllPairs-filter (λ (a b : ℤ). a <ℤ b) (passes c test) (days_from c.from n) (λ i j d before within.
    let long = count_of_days c.from n in
    let later : j < n = omega (arith, long, within) in
    let first = day_at_place c.from n i d (omega (arith, before, later)) in
    let second = day_at_place c.from n j d later in
    omega (arith, ints, first, second, before))
