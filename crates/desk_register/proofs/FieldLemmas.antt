-- The fields of a row, from a place on.
use Rattle.std.proofs.Common.{◌≡◌, ◌∙◌, ◌+◌, ◌<◌, ◌≤◌, ℕ, suc, zero, List, [], ◌∷◌, ◌++◌, Some, None, drop, take, refl, sym, ap, append_assoc, append-nil, arith}
use Rattle.csv.specs.Records.{field_at}

-- where there is a field at the next place
next_field : (fields : List (List ℕ)) (place to : ℕ) (field : List ℕ) → place < to → field_at fields place ≡ Some field → drop place (take to fields) ≡ field ∷ drop (suc place) (take to fields)
unfolding field_at
next_field [] place to field below at = cc at
next_field (x ∷ fields) zero zero field below at = absurd (omega (arith, below))
next_field (x ∷ fields) zero (suc to) field below at = let same : x ≡ field = cc at in ap (λ (f : List ℕ). f ∷ take to fields) same
next_field (x ∷ fields) (suc place) zero field below at = absurd (omega (arith, below))
next_field (x ∷ fields) (suc place) (suc to) field below at = next_field fields place to field (omega (arith, below)) at

-- and where there is none
no_field : (fields : List (List ℕ)) (place to : ℕ) → field_at fields place ≡ None → drop place (take to fields) ≡ []
unfolding field_at
no_field [] zero zero at = refl
no_field [] zero (suc to) at = refl
no_field [] (suc place) zero at = refl
no_field [] (suc place) (suc to) at = refl
no_field (x ∷ fields) zero to at = cc at
no_field (x ∷ fields) (suc place) zero at = refl
no_field (x ∷ fields) (suc place) (suc to) at = no_field fields place to at

no_later : (fields : List (List ℕ)) (place to : ℕ) → field_at fields place ≡ None → drop (suc place) (take to fields) ≡ []
unfolding field_at
no_later [] place zero at = refl
no_later [] place (suc to) at = refl
no_later (x ∷ fields) zero to at = cc at
no_later (x ∷ fields) (suc place) zero at = refl
no_later (x ∷ fields) (suc place) (suc to) at = no_later fields place to at

one_more : (n : ℕ) → n + 1 ≡ suc n
one_more n = omega arith

pub field_pushed : (fields before after all : List (List ℕ)) (place to : ℕ) (field : List ℕ) → place < to → field_at fields place ≡ Some field → after ≡ before ++ field ∷ [] → before ++ drop place (take to fields) ≡ all
    → after ++ drop (place + 1) (take to fields) ≡ all
field_pushed fields before after all place to field below at pushed whole =
    ap (λ (n : ℕ). after ++ drop n (take to fields)) (one_more place)
    ∙ ap (λ (l : List (List ℕ)). l ++ drop (suc place) (take to fields)) pushed
    ∙ append_assoc before (field ∷ []) (drop (suc place) (take to fields))
    ∙ ap (λ (l : List (List ℕ)). before ++ l) (sym (next_field fields place to field below at))
    ∙ whole

pub none_pushed : (fields before all : List (List ℕ)) (place to : ℕ) → field_at fields place ≡ None → before ++ drop place (take to fields) ≡ all → before ++ drop (place + 1) (take to fields) ≡ all
none_pushed fields before all place to at whole =
    ap (λ (n : ℕ). before ++ drop n (take to fields)) (one_more place)
    ∙ ap (λ (l : List (List ℕ)). before ++ l) (no_later fields place to at ∙ sym (no_field fields place to at))
    ∙ whole

past_all : (fields : List (List ℕ)) (place to : ℕ) → to ≤ place → drop place (take to fields) ≡ []
past_all [] zero zero past = refl
past_all [] zero (suc to) past = refl
past_all [] (suc place) zero past = refl
past_all [] (suc place) (suc to) past = refl
past_all (x ∷ fields) zero zero past = refl
past_all (x ∷ fields) zero (suc to) past = absurd (omega (arith, past))
past_all (x ∷ fields) (suc place) zero past = refl
past_all (x ∷ fields) (suc place) (suc to) past = past_all fields place to (omega (arith, past))

pub fields_pushed : (fields before all : List (List ℕ)) (place to : ℕ) → to ≤ place → before ++ drop place (take to fields) ≡ all → before ≡ all
fields_pushed fields before all place to past whole = sym (append-nil before) ∙ ap (λ (l : List (List ℕ)). before ++ l) (sym (past_all fields place to past)) ∙ whole
