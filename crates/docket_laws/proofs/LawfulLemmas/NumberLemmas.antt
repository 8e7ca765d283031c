-- Rows that are numbered from 1 in the order of their list.
use Rattle.std.proofs.Common.{◌≡◌, ℕ, ◌+◌, ◌<◌, ◌≤◌, Bool, true, filter, inl, inr, List, [], ◌∷◌, ◌++◌, length, get_or, map, refl, ap, sym, ◌∙◌, arith, subst}
use Rattle.std.specs.List.{Contains, range_with_len}
use Rattle.std.proofs.lemmas.Bool.{cases_Bool}
use Rattle.std.proofs.lemmas.List.{append-nil, length-map, map-append, map-id, length_push, get_or-map, get_or_default}
use Rattle.std.proofs.lemmas.List.Elements.{filter-append}
use Rattle.std.proofs.lemmas.List.FromFn.{map-range_with_len_more, get_or-range_with_len}
use Rattle.docket_laws.proofs.LawfulLemmas.ListLemmas.{filter-map_same}

module _ {X : Type 0} (number : X → ℕ) where
  -- the numbers of the rows are those from 1 on
  abbrev pub AreNumbered : List X → Type 0
  AreNumbered xs = map number xs ≡ range_with_len 1 (length xs)

  -- one more row with the next number
  pub numbered-push : (xs : List X) (x : X) → AreNumbered xs → number x ≡ length xs + 1 → AreNumbered (xs ++ x ∷ [])
  numbered-push xs x h next =
      let one : range_with_len 1 (length xs + 1) ≡ range_with_len 1 (length xs) ++ (length xs + 1) ∷ [] = range_more (length xs) in
      map-append number xs (x ∷ [])
      ∙ ap (λ ns. ns ++ number x ∷ []) h
      ∙ ap (λ n. range_with_len 1 (length xs) ++ n ∷ []) next
      ∙ sym one
      ∙ ap (range_with_len 1) (sym (length_push xs x)) where
        range_more : (n : ℕ) → range_with_len 1 (n + 1) ≡ range_with_len 1 n ++ (n + 1) ∷ []
        range_more n =
            sym (map-id (range_with_len 1 (n + 1)))
            ∙ map-range_with_len_more (λ k. k) 1 n (n + 1) (omega arith)
            ∙ ap (λ ns. ns ++ (n + 1) ∷ []) (map-id (range_with_len 1 n))

  -- a row's number says where it is
  pub number_at : (xs : List X) → AreNumbered xs → (k : ℕ) (d : X) → k < length xs → number (get_or xs k d) ≡ 1 + k
  number_at xs h k d within =
      sym (get_or-map number xs k d 0 within)
      ∙ ap (λ ns. get_or ns k 0) h
      ∙ get_or-range_with_len 1 (length xs) k 0 within

  -- so no number is past their count
  pub number_within : (xs : List X) (x : X) → AreNumbered xs → Contains xs x → number x ≤ length xs
  number_within xs x h held =
      let at = number_at xs h held.0 x held.1 in
      let here : number x ≡ 1 + held.0 = ap number (sym held.2) ∙ at in
      omega (arith, here, held.1)

  -- and no two rows have the same one
  pub number_once : (xs : List X) (x y : X) → AreNumbered xs → Contains xs x → Contains xs y → number x ≡ number y → x ≡ y
  number_once xs x y h first second same =
      let here : number x ≡ 1 + first.0 = ap number (sym first.2) ∙ number_at xs h first.0 x first.1 in
      let there : number y ≡ 1 + second.0 = ap number (sym second.2) ∙ number_at xs h second.0 y second.1 in
      let place : first.0 ≡ second.0 = omega (arith, here, there, same) in
      sym first.2 ∙ ap (λ k. get_or xs k x) place ∙ get_or_default xs second.0 x y second.1 ∙ second.2

  -- the same of the rows that pass a test, with one more after them
  pub numbered_in_more : (mine : X → Bool) (xs : List X) (x : X) → AreNumbered (filter mine xs) → (mine x ≡ true → number x ≡ length (filter mine xs) + 1) → AreNumbered (filter mine (xs ++ x ∷ []))
  numbered_in_more mine xs x h next = elim (cases_Bool (mine x)) [
    | inl passes ↦
        let one : filter mine (x ∷ []) ≡ x ∷ [] = rw passes refl in
        let all : filter mine (xs ++ x ∷ []) ≡ filter mine xs ++ x ∷ [] = filter-append mine xs (x ∷ []) ∙ ap (λ ys. filter mine xs ++ ys) one in
        subst AreNumbered (sym all) (numbered-push (filter mine xs) x h (next passes))
    | inr fails ↦
        let none : filter mine (x ∷ []) ≡ [] = rw fails refl in
        let all : filter mine (xs ++ x ∷ []) ≡ filter mine xs = filter-append mine xs (x ∷ []) ∙ ap (λ ys. filter mine xs ++ ys) none ∙ append-nil (filter mine xs) in
        subst AreNumbered (sym all) h
  ]

  -- and where what changes in the rows is neither the test nor their numbers
  pub numbered_in_changed : (mine : X → Bool) (change : X → X) → ((x : X) → mine (change x) ≡ mine x) → ((x : X) → number (change x) ≡ number x) → (xs : List X) → AreNumbered (filter mine xs) → AreNumbered (filter mine (map change xs))
  numbered_in_changed mine change test value xs h =
      let same : map number (filter mine (map change xs)) ≡ map number (filter mine xs) = filter-map_same mine change number test value xs in
      let long : length (filter mine (map change xs)) ≡ length (filter mine xs) = sym (length-map (filter mine (map change xs)) number) ∙ ap length same ∙ length-map (filter mine xs) number in
      same ∙ h ∙ ap (range_with_len 1) (sym long)
