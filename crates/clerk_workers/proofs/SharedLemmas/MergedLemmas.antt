-- The answers of all clerks, put into the order of the rows.
use Rattle.std.proofs.Common.{◌≡◌, ℕ, suc, ◌+◌, ◌-◌, ◌<◌, ◌==◌, true, false, List, [], ◌∷◌, ◌++◌, length, take, drop, set, refl, ap, sym, ◌∙◌, subst, arith, length-append, true≢false}
use Rattle.std.proofs.lemmas.Bool.Decides.{Decides-eqb}
use Rattle.std.proofs.lemmas.List.{get_or-set_other, get_or-set_same, length-set}
use Rattle.std.proofs.lemmas.List.Elements.{All-head, All-tail}
use Rattle.row_forms.specs.declared.row.Row.{Row}
use Rattle.clerk_workers.specs.declared.answer.SharedReply.{SharedReply}
use Rattle.row_forms.specs.Words.{IsClerk}
use Rattle.clerk_workers.specs.Words.{AreAsMany, AreMerged, AreOfClerks, answers_of, list_at, works_of}
use Rattle.clerk_workers.proofs.CallerLemmas.{answers_other, answers_own, works_append, works_other, works_own}
use Rattle.clerk_workers.proofs.SharedLemmas.HoldLemmas.{first_of}

-- each row takes the next answer of its clerk's list
abbrev pub merged : List Row → List (List SharedReply) → List SharedReply
merged [] lists = []
merged (row ∷ rows) lists =
    let list = list_at (row.clerk - 1) lists in
    take 1 list ++ merged rows (set lists (row.clerk - 1) (drop 1 list))

-- what is so at one place and at all others
at_each : (P : ℕ → Type 0) (place : ℕ) → P place → ((other : ℕ) → (other ≡ place → ⊥) → P other) → (other : ℕ) → P other
at_each P place here elsewhere other =
    (elim (other == place) as (λ b. (other == place) ≡ b → P other) [
      | true ↦ λ is. subst P (sym ((Decides-eqb other place).0 is)) here
      | false ↦ λ is. elsewhere other (λ same. true≢false (sym ((Decides-eqb other place).1 same) ∙ is))
    ]) refl

none_left : (answers : List SharedReply) → length answers ≡ 0 → answers ≡ []
none_left [] none = refl
none_left (answer ∷ answers) none = absurd (omega (arith, none))

module _ (row : Row) (rows : List Row) (lists : List (List SharedReply)) (clerk : IsClerk (length lists) row.clerk) (many : AreAsMany (row ∷ rows) lists) where
  abbrev place : ℕ
  place = row.clerk - 1

  own : row.clerk ≡ place + 1
  own = omega (arith, clerk.from_one)

  within : place < length lists
  within = omega (arith, clerk.from_one, clerk.to_last)

  -- as many rows of each clerk as after the first row, and it
  counted : (n : ℕ) → length (works_of n (row ∷ rows)) ≡ length (works_of n (row ∷ [])) + length (works_of n rows)
  counted n = ap length (works_append n (row ∷ []) rows) ∙ length-append (works_of n (row ∷ [])) (works_of n rows)

  one : length (works_of (place + 1) (row ∷ [])) ≡ 1
  one = ap length (works_own (place + 1) row own)

  no_other : (other : ℕ) → (other ≡ place → ⊥) → row.clerk ≡ other + 1 → ⊥
  no_other other differs is = differs (omega (arith, is, own))

  -- the clerk of the first row has an answer
  pub first_has : 0 < length (list_at place lists)
  first_has = omega (arith, many place within, one, counted (place + 1))

  module _ (answer : SharedReply) (others : List SharedReply) (next : list_at place lists ≡ answer ∷ others) where
    abbrev left : List (List SharedReply)
    left = set lists place others

    here : list_at place left ≡ others
    here = get_or-set_same lists place others [] within

    elsewhere : (other : ℕ) → (other ≡ place → ⊥) → list_at other left ≡ list_at other lists
    elsewhere other differs = get_or-set_other lists place other others [] differs

    inside : (other : ℕ) → other < length left → other < length lists
    inside other lt = omega (arith, lt, length-set lists place others)

    many_here : length (list_at place left) ≡ length (works_of (place + 1) rows)
    many_here =
        let long : length (list_at place lists) ≡ suc (length others) = ap length next in
        let rest : length (list_at place left) ≡ length others = ap length here in
        omega (arith, many place within, one, long, rest, counted (place + 1))

    many_elsewhere : (other : ℕ) → (other ≡ place → ⊥) → other < length left → length (list_at other left) ≡ length (works_of (other + 1) rows)
    many_elsewhere other differs lt =
        let none : length (works_of (other + 1) (row ∷ [])) ≡ 0 = ap length (works_other (other + 1) row (no_other other differs)) in
        let same : length (list_at other left) ≡ length (list_at other lists) = ap length (elsewhere other differs) in
        omega (arith, many other (inside other lt), none, same, counted (other + 1))

    -- once it is taken, the others are those of the rows after it
    pub first_left : AreAsMany rows left
    first_left =
        at_each (λ other. other < length left → length (list_at other left) ≡ length (works_of (other + 1) rows)) place (λ lt. many_here) many_elsewhere

    -- and it comes before them
    pub first_merged : merged (row ∷ rows) lists ≡ answer ∷ merged rows left
    first_merged = ap (λ (list : List SharedReply). take 1 list ++ merged rows (set lists place (drop 1 list))) next

    module _ (answers : List SharedReply) (rest : AreMerged rows left answers) where
      mine_here : list_at place lists ≡ answers_of (place + 1) (row ∷ rows) (answer ∷ answers)
      mine_here =
          let lt : place < length left = omega (arith, within, length-set lists place others) in
          let those : others ≡ answers_of (place + 1) rows answers = sym here ∙ rest place lt in
          next ∙ (ap (λ (list : List SharedReply). answer ∷ list) those ∙ sym (answers_own (place + 1) row rows answer answers own))

      mine_elsewhere : (other : ℕ) → (other ≡ place → ⊥) → other < length lists → list_at other lists ≡ answers_of (other + 1) (row ∷ rows) (answer ∷ answers)
      mine_elsewhere other differs lt =
          let short : other < length left = omega (arith, lt, length-set lists place others) in
          sym (elsewhere other differs) ∙ (rest other short ∙ sym (answers_other (other + 1) row rows answer answers (no_other other differs)))

      all_mine : AreMerged (row ∷ rows) lists (answer ∷ answers)
      all_mine =
          at_each (λ other. other < length lists → list_at other lists ≡ answers_of (other + 1) (row ∷ rows) (answer ∷ answers)) place (λ lt. mine_here) mine_elsewhere

-- each row has an answer, and each list those of its clerk
abbrev AreAll : List Row → List (List SharedReply) → List SharedReply → Type 0
AreAll rows lists answers = (length answers ≡ length rows) × AreMerged rows lists answers

pub all_merged : (rows : List Row) (lists : List (List SharedReply)) → AreOfClerks (length lists) rows → AreAsMany rows lists → AreAll rows lists (merged rows lists)
all_merged [] lists clerks many = (refl, λ place lt. none_left (list_at place lists) (many place lt))
all_merged (row ∷ rows) lists clerks many =
    let clerk = All-head (λ (r : Row). IsClerk (length lists) r.clerk) row rows clerks in
    let first = first_of (list_at (row.clerk - 1) lists) (first_has row rows lists clerk many) in
    let P : ℕ → Type 0 = λ n. AreOfClerks n rows in
    let behind = subst P (sym (length-set lists (row.clerk - 1) first.1)) (All-tail (λ (r : Row). IsClerk (length lists) r.clerk) row rows clerks) in
    let rest = all_merged rows (set lists (row.clerk - 1) first.1) behind (first_left row rows lists clerk many first.0 first.1 first.2) in
    let answers = merged rows (set lists (row.clerk - 1) first.1) in
    let Q : List SharedReply → Type 0 = λ all. AreAll (row ∷ rows) lists all in
    subst Q (sym (first_merged row rows lists clerk many first.0 first.1 first.2)) (ap suc rest.0, all_mine row rows lists clerk many first.0 first.1 first.2 answers rest.1)
