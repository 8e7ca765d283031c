-- Answers that are taken from the clerks' lists, from the last row on.
use Rattle.std.proofs.Common.{◌≡◌, ℕ, ◌+◌, ◌<◌, ◌==◌, true, false, List, [], ◌∷◌, ◌++◌, length, map, reverse, All, refl, ap, sym, ◌∙◌, append_assoc, subst, arith, length-append, true≢false, get_or, set}
use Rattle.std.proofs.lemmas.Bool.Decides.{Decides-eqb}
use Rattle.std.proofs.lemmas.List.{get_or-map, get_or-set_other, get_or-set_same, length-map, length-set, map-set, reverse-append}
use Rattle.row_forms.specs.declared.row.Row.{Row}
use Rattle.row_forms.specs.Words.{IsClerk, IsOfClerk}
use Rattle.clerk_workers.specs.declared.answer.SharedReply.{SharedReply}
use Rattle.clerk_workers.specs.Inside.Merged.{AreFromTheLast, IsTaken, list_at}
use Rattle.clerk_workers.specs.Rows.{AreOfClerks, answers_of, works_of}
use Rattle.clerk_workers.proofs.WorkerLemmas.{all_but_last, all_first}
use Rattle.clerk_workers.proofs.RowLemmas.{answers_other, answers_own, works_append, works_other, works_own}

-- a list with one answer fewer is put back
pub taken : {V : Type 0} (f : V → List SharedReply) (lists : List V) (place : ℕ) (old new : V) (answer : SharedReply) → place < length lists → old ≡ get_or lists place old → f old ≡ f new ++ answer ∷ [] → IsTaken (map f lists) (map f (set lists place new)) place answer
taken f lists place old new answer lt at popped =
    let put : map f (set lists place new) ≡ set (map f lists) place (f new) = map-set f lists place new in
    let short : place < length (map f lists) = omega (arith, lt, length-map lists f) in
    let now : list_at place (map f (set lists place new)) ≡ f new = ap (list_at place) put ∙ get_or-set_same (map f lists) place (f new) [] short in
    record {
      as_long = length-map (set lists place new) f ∙ (length-set lists place new ∙ sym (length-map lists f));
      here = get_or-map f lists place old [] lt ∙ (ap f (sym at) ∙ (popped ∙ ap (λ (others : List SharedReply). others ++ answer ∷ []) (sym now)));
      elsewhere = λ other differs. sym (ap (list_at other) put ∙ get_or-set_other (map f lists) place other (f new) [] differs);
    }

module _ (all rest before : List Row) (row : Row) (first now : List (List SharedReply)) (taken : List SharedReply) (last : rest ≡ before ++ row ∷ []) (way : AreFromTheLast all rest first now taken) where
  -- the next row is of one of the clerks
  pub next_clerk : (clerks : ℕ) → AreOfClerks clerks all → IsClerk clerks row.clerk
  next_clerk clerks each =
      let P : Row → Type 0 = IsOfClerk clerks in
      let here : AreOfClerks clerks rest = all_first P rest way.later (subst (All P) way.all_is each) in
      (all_but_last P before row (subst (All P) last here)).1

  -- as many of each clerk's rows are left as before the next row, and it
  rows_left : (clerk : ℕ) → length (works_of clerk rest) ≡ length (works_of clerk before) + length (works_of clerk (row ∷ []))
  rows_left clerk =
      ap (λ (rs : List Row). length (works_of clerk rs)) last ∙ (ap length (works_append clerk before (row ∷ [])) ∙ length-append (works_of clerk before) (works_of clerk (row ∷ [])))

  -- so its clerk has an answer left
  pub next_answer : (place : ℕ) → place < length first → row.clerk ≡ place + 1 → 0 < length (list_at place now)
  next_answer place lt own =
      let one : length (works_of (place + 1) (row ∷ [])) ≡ 1 = ap length (works_own (place + 1) row own) in
      let many = way.as_many place (omega (arith, lt, way.as_long)) in
      omega (arith, many, one, rows_left (place + 1))

  module _ (place : ℕ) (own : row.clerk ≡ place + 1) (new : List (List SharedReply)) (answer : SharedReply) (took : IsTaken now new place answer) where
    as_many_here : place < length new → length (list_at place new) ≡ length (works_of (place + 1) before)
    as_many_here lt =
        let one : length (works_of (place + 1) (row ∷ [])) ≡ 1 = ap length (works_own (place + 1) row own) in
        let many = way.as_many place (omega (arith, lt, took.as_long)) in
        let long : length (list_at place now) ≡ length (list_at place new) + 1 = ap length took.here ∙ length-append (list_at place new) (answer ∷ []) in
        omega (arith, many, one, long, rows_left (place + 1))

    as_many_elsewhere : (other : ℕ) → (other ≡ place → ⊥) → other < length new → length (list_at other new) ≡ length (works_of (other + 1) before)
    as_many_elsewhere other differs lt =
        let none : length (works_of (other + 1) (row ∷ [])) ≡ 0 = ap length (works_other (other + 1) row (λ is. differs (omega (arith, is, own)))) in
        let many = way.as_many other (omega (arith, lt, took.as_long)) in
        let long : length (list_at other now) ≡ length (list_at other new) = ap length (took.elsewhere other differs) in
        omega (arith, many, none, long, rows_left (other + 1))

    abbrev told : List SharedReply
    told = reverse (taken ++ answer ∷ [])

    turned : told ≡ answer ∷ reverse taken
    turned = reverse-append taken (answer ∷ [])

    lists_here : place < length first → list_at place first ≡ list_at place new ++ answers_of (place + 1) (row ∷ way.later) told
    lists_here lt =
        let later = answers_of (place + 1) way.later (reverse taken) in
        let mine : answers_of (place + 1) (row ∷ way.later) told ≡ answer ∷ later =
        ap (answers_of (place + 1) (row ∷ way.later)) turned ∙ answers_own (place + 1) row way.later answer (reverse taken) own in
        way.lists place lt ∙ (ap (λ (others : List SharedReply). others ++ later) took.here ∙ (append_assoc (list_at place new) (answer ∷ []) later ∙ ap (λ (others : List SharedReply). list_at place new ++ others) (sym mine)))

    lists_elsewhere : (other : ℕ) → (other ≡ place → ⊥) → other < length first → list_at other first ≡ list_at other new ++ answers_of (other + 1) (row ∷ way.later) told
    lists_elsewhere other differs lt =
        let later = answers_of (other + 1) way.later (reverse taken) in
        let none : answers_of (other + 1) (row ∷ way.later) told ≡ later =
        ap (answers_of (other + 1) (row ∷ way.later)) turned ∙ answers_other (other + 1) row way.later answer (reverse taken) (λ is. differs (omega (arith, is, own))) in
        way.lists other lt ∙ (ap (λ (others : List SharedReply). others ++ later) (took.elsewhere other differs) ∙ ap (λ (others : List SharedReply). list_at other new ++ others) (sym none))

    -- the answer to the next row is taken
    pub from_more : AreFromTheLast all before first new (taken ++ answer ∷ [])
    from_more = record {
      later = row ∷ way.later;
      all_is = way.all_is ∙ (ap (λ (rs : List Row). rs ++ way.later) last ∙ append_assoc before (row ∷ []) way.later);
      as_long = took.as_long ∙ way.as_long;
      as_many = λ other lt.
          (elim (other == place) as (λ b. (other == place) ≡ b → length (list_at other new) ≡ length (works_of (other + 1) before)) [
            | true ↦ λ is.
                let same : other ≡ place = (Decides-eqb other place).0 is in
                let P : ℕ → Type 0 = λ n. length (list_at n new) ≡ length (works_of (n + 1) before) in
                subst P (sym same) (as_many_here (omega (arith, same, lt)))
            | false ↦ λ is. as_many_elsewhere other (λ same. true≢false (sym ((Decides-eqb other place).1 same) ∙ is)) lt
          ]) refl;
      lists = λ other lt.
          (elim (other == place) as (λ b. (other == place) ≡ b → list_at other first ≡ list_at other new ++ answers_of (other + 1) (row ∷ way.later) told) [
            | true ↦ λ is.
                let same : other ≡ place = (Decides-eqb other place).0 is in
                let P : ℕ → Type 0 = λ n. list_at n first ≡ list_at n new ++ answers_of (n + 1) (row ∷ way.later) told in
                subst P (sym same) (lists_here (omega (arith, same, lt)))
            | false ↦ λ is. lists_elsewhere other (λ same. true≢false (sym ((Decides-eqb other place).1 same) ∙ is)) lt
          ]) refl;
      answered = length-append taken (answer ∷ []) ∙ omega (arith, way.answered);
    }
