-- What holds of a list after an element is put in its place.
use Rattle.std.proofs.Common.{◌≡◌, ℕ, ◌+◌, ◌-◌, ◌<◌, ◌≤◌, List, ◌∷◌, length, get_or, take, drop, ap, ◌∙◌, arith, inl, inr}
use Rattle.std.specs.List.{All, AllPairs, AllWithin, insert}
use Rattle.std.proofs.lemmas.Bool.{cases_order}
use Rattle.std.proofs.lemmas.List.Edits.{length-insert, get_or-insert_below, get_or-insert_at, get_or-insert_above}
use Rattle.std.proofs.lemmas.List.Elements.{All-append, All-cons, All-take, All-drop}

-- each element has P
pub All-insert : {X : Type 0} (P : X → Type 0) (xs : List X) (i : ℕ) (y : X) → All P xs → P y → All P (insert xs i y)
All-insert P xs i y all here =
    All-append P (take i xs) (y ∷ drop i xs) (All-take P i xs all) (All-cons P y (drop i xs) here (All-drop P i xs all))

-- an element after the new one was one place before
get_or-insert_past : {X : Type 0} (xs : List X) (i : ℕ) (y d : X) (k : ℕ) → i < k → i ≤ length xs → get_or (insert xs i y) k d ≡ get_or xs (k - 1) d
get_or-insert_past xs i y d k past le =
    let next : k ≡ (k - 1) + 1 = omega arith in
    let at : i ≤ k - 1 = omega arith in
    ap (λ (n : ℕ). get_or (insert xs i y) n d) next ∙ get_or-insert_above xs i y d (k - 1) at le

-- each element has R to all after it
pub AllPairs-insert : {X : Type 0} (R : X → X → Type 0) (xs : List X) (i : ℕ) (y : X) → i ≤ length xs → AllPairs R xs → AllWithin (λ x. R x y) xs 0 i → AllWithin (R y) xs i (length xs) → AllPairs R (insert xs i y)
AllPairs-insert R xs i y le pairs front back j k d before within =
    let long : length (insert xs i y) ≡ length xs + 1 = length-insert xs i y le in
    elim (cases_order k i) [
      | inl here ↦
          let first : j < i = omega arith in
          let low : 0 ≤ j = omega arith in
          rw (here, get_or-insert_at xs i y d le, get_or-insert_below xs i y d j first le) (front j d low first)
      | inr other ↦ elim other [
        | inl below ↦
            let first : j < i = omega arith in
            let high : k < length xs = omega arith in
            rw (get_or-insert_below xs i y d j first le, get_or-insert_below xs i y d k below le) (pairs j k d before high)
        | inr past ↦
            let high : k - 1 < length xs = omega arith in
            rw (get_or-insert_past xs i y d k past le) (elim (cases_order j i) [
              | inl here ↦
                  let at : i ≤ k - 1 = omega arith in
                  rw (here, get_or-insert_at xs i y d le) (back (k - 1) d at high)
              | inr apart ↦ elim apart [
                | inl first ↦
                    let lower : j < k - 1 = omega arith in
                    rw (get_or-insert_below xs i y d j first le) (pairs j (k - 1) d lower high)
                | inr behind ↦
                    let lower : j - 1 < k - 1 = omega arith in
                    rw (get_or-insert_past xs i y d j behind le) (pairs (j - 1) (k - 1) d lower high)
              ]
            ])
      ]
    ]
