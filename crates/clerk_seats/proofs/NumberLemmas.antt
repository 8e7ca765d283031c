-- Lists of numbers that have all from 1 to n: they are no shorter than n, and where they are no longer, they have each once and no others.
use Rattle.std.proofs.Common.{◌≡◌, ℕ, zero, suc, ◌+◌, ◌<◌, ◌≤◌, ◌==◌, false, nat_eq, List, [], ◌∷◌, ◌++◌, length, Contains, inl, inr, sym, ◌∙◌, subst, append_assoc, arith, length-append}
use Rattle.std.specs.List.{IsDistinct, AllByRecursion}
use Rattle.std.proofs.lemmas.Bool.{cases_Bool, cases_lt}
use Rattle.std.proofs.lemmas.Bool.Decides.{Decides-eqb}

-- a list without one of its numbers is shorter, and has the others still
record Without (k : ℕ) (xs ys : List ℕ) : Type 0 where
  shorter : length xs ≡ length ys + 1
  others : (j : ℕ) → (j ≡ k → ⊥) → Contains xs j → Contains ys j

pub behind : (x j : ℕ) (xs : List ℕ) → (x ≡ j → ⊥) → Contains (x ∷ xs) j → Contains xs j
behind x j xs differs (zero, within, is) = absurd (differs is)
behind x j xs differs (suc i, within, is) = (i, omega (arith, within), is)

ahead : (x j : ℕ) (xs ys : List ℕ) → (Contains xs j → Contains ys j) → Contains (x ∷ xs) j → Contains (x ∷ ys) j
ahead x j xs ys keeps (zero, within, is) = (0, omega arith, is)
ahead x j xs ys keeps (suc i, within, is) =
    let rest = keeps (i, omega (arith, within), is) in
    (suc rest.0, omega (arith, rest.1), rest.2)

without : (k : ℕ) (xs : List ℕ) → Contains xs k → (ys : List ℕ) × Without k xs ys
without k [] has = absurd (omega (arith, has.1))
without k (x ∷ xs) (zero, within, is) =
    (xs, record { shorter = omega arith; others = λ j differs among. behind x j xs (λ same. differs (sym same ∙ is)) among })
without k (x ∷ xs) (suc i, within, is) =
    let rest = without k xs (i, omega (arith, within), is) in
    (x ∷ rest.0, record { shorter = omega (arith, rest.1.shorter); others = λ j differs among. ahead x j xs rest.0 (rest.1.others j differs) among })

-- a list that has all numbers from 1 to n is no shorter than n
pub has_all : (n : ℕ) (xs : List ℕ) → ((k : ℕ) → 0 < k → k ≤ n → Contains xs k) → n ≤ length xs
has_all zero xs has = omega arith
has_all (suc n) xs has =
    let rest = without (suc n) xs (has (suc n) (omega arith) (omega arith)) in
    omega (arith, rest.1.shorter, has_all n rest.0 (λ k above within. rest.1.others k (λ same. omega (arith, same, within)) (has k above (omega (arith, within)))))

-- where it is no longer than n, it has no others
pub no_others : (n : ℕ) (xs : List ℕ) → ((k : ℕ) → 0 < k → k ≤ n → Contains xs k) → length xs ≤ n → (k : ℕ) → Contains xs k → (0 < k) × (k ≤ n)
no_others n xs has few zero among =
    let rest = without zero xs among in
    absurd (omega (arith, few, rest.1.shorter, has_all n rest.0 (λ j above within. rest.1.others j (λ same. omega (arith, same, above)) (has j above within))))
no_others n xs has few (suc k) among =
    let rest = without (suc k) xs among in
    (elim (cases_lt n (suc k)) as (λ _. (0 < suc k) × (suc k ≤ n)) [
      | inl beyond ↦ absurd (omega (arith, few, rest.1.shorter, has_all n rest.0 (λ j above within. rest.1.others j (λ same. omega (arith, same, beyond, within)) (has j above within))))
      | inr within ↦ (omega arith, within)
    ])

-- a number that comes again further on may be left out
left_out : (before : List ℕ) (x : ℕ) (xs : List ℕ) → Contains xs x → (k : ℕ) → Contains (before ++ x ∷ xs) k → Contains (before ++ xs) k
left_out [] x xs again k (zero, within, is) = subst (Contains xs) is again
left_out [] x xs again k (suc i, within, is) = (i, omega (arith, within), is)
left_out (b ∷ bs) x xs again k among = ahead b k (bs ++ x ∷ xs) (bs ++ xs) (left_out bs x xs again k) among

absent : (x : ℕ) (ys : List ℕ) → (Contains ys x → ⊥) → AllByRecursion (λ y. nat_eq x y ≡ false) ys
absent x [] none = tt
absent x (y ∷ ys) none =
    let differs : nat_eq x y ≡ false = elim (cases_Bool (x == y)) as (λ _. nat_eq x y ≡ false) [
      | inl same ↦ absurd (none (0, omega arith, sym ((Decides-eqb x y).0 same)))
      | inr other ↦ other
    ] in
    (differs, absent x ys (λ has. none (suc has.0, omega (arith, has.1), has.2)))

-- and each once
once_behind : (n : ℕ) (before xs : List ℕ) → ((k : ℕ) → 0 < k → k ≤ n → Contains (before ++ xs) k) → length (before ++ xs) ≤ n → IsDistinct nat_eq xs
unfolding IsDistinct
once_behind n before [] has few = tt
once_behind n before (x ∷ xs) has few =
    let first : Contains xs x → ⊥ = λ again. omega (arith, few, length-append before (x ∷ xs), length-append before xs, has_all n (before ++ xs) (λ k above within. left_out before x xs again k (has k above within))) in
    let same : (before ++ x ∷ []) ++ xs ≡ before ++ x ∷ xs = append_assoc before (x ∷ []) xs in
    (absent x xs first, once_behind n (before ++ x ∷ []) xs (rw same has) (rw same few))

pub each_once : (n : ℕ) (xs : List ℕ) → ((k : ℕ) → 0 < k → k ≤ n → Contains xs k) → length xs ≤ n → IsDistinct nat_eq xs
each_once n xs has few = once_behind n [] xs has few
