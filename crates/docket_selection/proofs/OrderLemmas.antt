-- What a stable sort by time says.
use Rattle.std.proofs.Common.{◌≡◌, ◌<◌, ◌≤◌, ◌∙◌, ℕ, ℤ, Bool, false, not, ◌&&◌, List, [], ◌∷◌, filter, length, get_or, cond, refl, sym, ap}
use Rattle.std.specs.Prelude.{◌≤ℤ◌}
use Rattle.std.specs.Ordering.{int_cmp, int_eq, is_lt}
use Rattle.std.specs.List.Sorted.{IsSortedByKey, IsStableByKey, ties as tie}
use Rattle.std.proofs.lemmas.Cmp.{int_cmp_total}
use Rattle.std.proofs.lemmas.Int.{ints}
use Rattle.std.proofs.lemmas.List.Sorted.{ranks_by, sorted_far}
use Rattle.std.proofs.Common.{arith}
use Rattle.docket_selection.specs.declared.item.DueItem.{DueItem}
use Rattle.docket_selection.specs.Due.{is_at_time_of}
use Rattle.docket_selection.specs.Items.{time_of}

-- what isn't less is at least as great
not_less : (a b : ℤ) → is_lt (int_cmp a b) ≡ false → b ≤ℤ a
not_less a b h = grind (arith, ints)

pub by_time : (list : List DueItem) → IsSortedByKey time_of int_cmp list → (i j : ℕ) (d : DueItem) → i ≤ j → j < length list → time_of (get_or list i d) ≤ℤ time_of (get_or list j d)
by_time list sorted i j d before within =
    not_less (time_of (get_or list j d)) (time_of (get_or list i d)) (sorted_far (λ (x y : DueItem). is_lt (int_cmp (time_of x) (time_of y))) (ranks_by int_cmp_total time_of) list sorted i j d before within)

-- two of which neither is less are equal
same_tie : (a b : ℤ) → (not (is_lt (int_cmp a b)) && not (is_lt (int_cmp b a))) ≡ int_eq a b
same_tie a b = grind (arith, ints)

same_filter : {X : Type 0} (p q : X → Bool) → ((x : X) → p x ≡ q x) → (xs : List X) → filter p xs ≡ filter q xs
same_filter p q same [] = refl
same_filter p q same (x ∷ xs) = ap (λ b. cond b (x ∷ filter p xs) (filter p xs)) (same x) ∙ ap (λ (ys : List _). cond (q x) (x ∷ ys) ys) (same_filter p q same xs)

pub ties : (items list : List DueItem) → IsStableByKey time_of int_cmp items list → (x : DueItem) → filter (is_at_time_of x) list ≡ filter (is_at_time_of x) items
ties items list stable x =
    let same : (y : DueItem) → tie (λ (u v : DueItem). is_lt (int_cmp (time_of u) (time_of v))) x y ≡ is_at_time_of x y = λ y. same_tie (time_of x) (time_of y) in
    sym (same_filter _ _ same list) ∙ stable x ∙ same_filter _ _ same items
