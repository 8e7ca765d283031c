-- Names stay apart when one is added.
use Rattle.std.proofs.Common.{◌≡◌, ◌∙◌, ◌⊎◌, inl, inr, ◌||◌, ◌+◌, ◌<◌, ℕ, suc, zero, Bool, true, false, true≢false, cond, List, get_or, take, [], ◌∷◌, ◌++◌, Some, None, length, is_some, nat_eq, slice_get, refl, sym, ap, arith}
use Rattle.std.proofs.lemmas.Bool.Decides.{nat_tests}
use Rattle.std.proofs.lemmas.List.{take_more}
use Rattle.std.proofs.lemmas.Slice.Eq.{bytes_eq-Decides}
use Rattle.std.specs.List.{find}
use Rattle.std.specs.Str.{bytes_eq}
use Rattle.case_numbers.specs.Cases.{name_of, number_of, with_case, with_name}
use Rattle.case_numbers.specs.Laws.{AreApart, NamesStayApart}
use Rattle.case_numbers.specs.declared.names.NamedCase.{NamedCase}
use Rattle.case_numbers.proofs.LookupLemmas.{some_map, there_at}

-- what is in a list with one more at its end
pushed : {X : Type 0} (xs : List X) (x : X) (i : ℕ) (a : X) → slice_get (xs ++ x ∷ []) i ≡ Some a → (slice_get xs i ≡ Some a) ⊎ ((i ≡ length xs) × (a ≡ x))
pushed [] x zero a h = inr (refl, cc h)
pushed [] x (suc i) a h = cc h
pushed (y ∷ xs) x zero a h = inl h
pushed (y ∷ xs) x (suc i) a h = elim (pushed xs x i a h) [
  | inl there ↦ inl there
  | inr last ↦ inr (ap suc last.0, last.1)
]

-- what is found nowhere is at no place
nowhere : (p : NamedCase → Bool) (xs : List NamedCase) (i : ℕ) (a : NamedCase) → is_some (find p xs) ≡ false → slice_get xs i ≡ Some a → p a ≡ false
nowhere p [] i a none there = cc there
nowhere p (x ∷ xs) i a none there = by (p x) refl none i there (nowhere p xs)
  where
    by : (b : Bool) → p x ≡ b → is_some (cond b (Some x) (find p xs)) ≡ false → (i : ℕ) → slice_get (x ∷ xs) i ≡ Some a
        → ((i : ℕ) (a : NamedCase) → is_some (find p xs) ≡ false → slice_get xs i ≡ Some a → p a ≡ false) → p a ≡ false
    by true e none i there rest = cc none
    by false e none zero there rest = let same : x ≡ a = cc there in ap p (sym same) ∙ e
    by false e none (suc i) there rest = rest i a none there

module _ (named : List NamedCase) (case : NamedCase) (no_number : is_some (name_of named case.number) ≡ false) (no_key : is_some (number_of named case.name.key) ≡ false) where
  other : (i : ℕ) (a : NamedCase) → slice_get named i ≡ Some a → (a.number ≡ case.number) ⊎ (a.name.key ≡ case.name.key) → ⊥
  unfolding name_of number_of
  other i a there same =
      let test = λ (c : NamedCase). nat_eq case.number c.number in
      let key_test = λ (c : NamedCase). bytes_eq case.name.key c.name.key in
      let apart = nowhere test named i a (sym (some_map (λ (c : NamedCase). c.name.shown) (find test named)) ∙ no_number) there in
      let key_apart = nowhere key_test named i a (sym (some_map (λ (c : NamedCase). c.number) (find key_test named)) ∙ no_key) there in
      elim same [
        | inl number ↦ grind (arith, nat_tests)
        | inr key ↦ absurd (true≢false (sym ((bytes_eq-Decides case.name.key a.name.key).1 (sym key)) ∙ key_apart))
      ]

  pub apart_more : AreApart named → AreApart (named ++ case ∷ [])
  apart_more apart i j a b at_i at_j same =
      elim (pushed named case i a at_i) [
        | inl in_i ↦ elim (pushed named case j b at_j) [
          | inl in_j ↦ apart i j a b in_i in_j same
          | inr last_j ↦ absurd (other i a in_i (flip last_j.1))
        ]
        | inr last_i ↦ elim (pushed named case j b at_j) [
          | inl in_j ↦ absurd (other j b in_j (flop last_i.1))
          | inr last_j ↦ last_i.0 ∙ sym last_j.0
        ]
      ]
    where
      flip : b ≡ case → (a.number ≡ case.number) ⊎ (a.name.key ≡ case.name.key)
      flip is = elim same [
        | inl number ↦ inl (number ∙ ap (λ (c : NamedCase). c.number) is)
        | inr key ↦ inr (key ∙ ap (λ (c : NamedCase). c.name.key) is)
      ]

      flop : a ≡ case → (b.number ≡ case.number) ⊎ (b.name.key ≡ case.name.key)
      flop is = elim same [
        | inl number ↦ inl (sym number ∙ ap (λ (c : NamedCase). c.number) is)
        | inr key ↦ inr (sym key ∙ ap (λ (c : NamedCase). c.name.key) is)
      ]

-- what fails everywhere is found nowhere
everywhere : (p : NamedCase → Bool) (xs : List NamedCase) → ((j : ℕ) (a : NamedCase) → slice_get xs j ≡ Some a → p a ≡ false) → is_some (find p xs) ≡ false
everywhere p [] fails = refl
everywhere p (x ∷ xs) fails = rw (fails 0 x refl) (everywhere p xs (λ j a at. fails (suc j) a at))

within_take : (xs : List NamedCase) (i j : ℕ) (a : NamedCase) → slice_get (take i xs) j ≡ Some a → (j < i) × (slice_get xs j ≡ Some a)
within_take [] zero j a at = cc at
within_take [] (suc i) j a at = cc at
within_take (x ∷ xs) zero j a at = cc at
within_take (x ∷ xs) (suc i) zero a at = (omega arith, at)
within_take (x ∷ xs) (suc i) (suc j) a at = let (below, there) = within_take xs i j a at in (omega (arith, below), there)

-- the cases up to a place, and that at it
module _ (named : List NamedCase) (i : ℕ) (case : NamedCase) (apart : AreApart named) (there : i < length named) (is : case ≡ get_or named i case) where
  before : (j : ℕ) (a : NamedCase) → slice_get (take i named) j ≡ Some a → (a.number ≡ case.number) ⊎ (a.name.key ≡ case.name.key) → ⊥
  before j a at same =
      let (below, in_all) = within_take named i j a at in
      let place = apart j i a case in_all (there_at named i case there is) same in
      absurd (omega (arith, below, place))

  no_number : is_some (name_of (take i named) case.number) ≡ false
  unfolding name_of
  no_number = some_map (λ (c : NamedCase). c.name.shown) (find (λ c. nat_eq case.number c.number) (take i named)) ∙ everywhere (λ c. nat_eq case.number c.number) (take i named) (λ j a at. by j a at (nat_eq case.number a.number) refl)
    where
      by : (j : ℕ) (a : NamedCase) → slice_get (take i named) j ≡ Some a → (b : Bool) → nat_eq case.number a.number ≡ b → b ≡ false
      by j a at true e = let same : a.number ≡ case.number = grind (arith, nat_tests) in absurd (before j a at (inl same))
      by j a at false e = refl

  no_key : is_some (number_of (take i named) case.name.key) ≡ false
  unfolding number_of
  no_key = some_map (λ (c : NamedCase). c.number) (find (λ c. bytes_eq case.name.key c.name.key) (take i named)) ∙ everywhere (λ c. bytes_eq case.name.key c.name.key) (take i named) (λ j a at. by j a at (bytes_eq case.name.key a.name.key) refl)
    where
      by : (j : ℕ) (a : NamedCase) → slice_get (take i named) j ≡ Some a → (b : Bool) → bytes_eq case.name.key a.name.key ≡ b → b ≡ false
      by j a at true e = absurd (before j a at (inr (sym ((bytes_eq-Decides case.name.key a.name.key).0 e))))
      by j a at false e = refl

  pub one_name_more : with_name (take i named) case.number (Some case.name) ≡ take (i + 1) named
  one_name_more = rw (no_number, no_key) (ap (λ (c : NamedCase). take i named ++ c ∷ []) is ∙ sym (take_more named i case there))

-- the law
pub names_stay_apart_lem : NamesStayApart
unfolding with_case
names_stay_apart_lem cases number None apart = apart
names_stay_apart_lem cases number (Some name) apart = by (is_some (name_of cases.named number)) refl (is_some (number_of cases.named name.key)) refl
  where
    by : (a : Bool) → is_some (name_of cases.named number) ≡ a → (b : Bool) → is_some (number_of cases.named name.key) ≡ b
        → AreApart (cond (a || b) cases.named (cases.named ++ record { number = number; name = name } ∷ []))
    by true p b q = apart
    by false p true q = apart
    by false p false q = apart_more cases.named (record { number = number; name = name }) p q apart
