-- What the notes of all clerks hold, list by list.
use Rattle.std.proofs.Common.{◌≡◌, ℕ, zero, suc, ◌+◌, ◌<◌, List, [], ◌∷◌, length, map, refl, ap, ◌∙◌, subst, arith}
use Rattle.docket_rows.specs.Words.{CourtSetup}
use Rattle.clerk_seats.specs.Words.{SeatView, TallyView}
use Rattle.row_forms.specs.declared.row.Row.{Row}
use Rattle.clerk_workers.specs.declared.answer.SharedReply.{SharedReply}
use Rattle.clerk_workers.specs.Inside.Merged.{list_at}
use Rattle.clerk_workers.specs.Noted.{AllHold, AllNoted, AreNoted}
use Rattle.clerk_workers.specs.Rows.{answers_of, works_of}
use Rattle.clerk_workers.specs.Runs.{AllWorked, AreInOrder, AreNumbered}
use Rattle.clerk_workers.specs.Worked.{HasWorked}
use Rattle.clerk_workers.proofs.AnsweredLemmas.{as_many}

-- as many lists as notes
pub held_long : {K : Type 0} (hold : K → List SharedReply → Type 0) (notes : List K) (lists : List (List SharedReply)) → AllHold hold notes lists → length lists ≡ length notes
held_long hold [] [] held = refl
held_long hold [] (answers ∷ lists) held = absurd held
held_long hold (n ∷ notes) [] held = absurd held
held_long hold (n ∷ notes) (answers ∷ lists) held = omega (arith, held_long hold notes lists held.1)

-- notes that are just the answers
pub held_items : {V : Type 0} (f : V → List SharedReply) (notes : List V) (lists : List (List SharedReply)) → AllHold (λ n answers. f n ≡ answers) notes lists → map f notes ≡ lists
held_items f [] [] held = refl
held_items f [] (answers ∷ lists) held = absurd held
held_items f (n ∷ notes) [] held = absurd held
held_items f (n ∷ notes) (answers ∷ lists) held =
    ap (λ (first : List SharedReply). first ∷ map f notes) held.0 ∙ ap (λ (rest : List (List SharedReply)). answers ∷ rest) (held_items f notes lists held.1)

module _ {K : Type 0} (hold : K → List SharedReply → Type 0) (setup : CourtSetup) (rows : List Row) where
  -- as many notes and tallies as seats
  pub noted_long : (seats : List SeatView) (notes : List K) (tallies : List TallyView) → AllNoted hold setup rows seats notes tallies → length notes ≡ length seats
  noted_long [] [] [] all = refl
  noted_long [] [] (tally ∷ tallies) all = absurd all
  noted_long [] (n ∷ notes) tallies all = absurd all
  noted_long (seat ∷ seats) [] tallies all = absurd all
  noted_long (seat ∷ seats) (n ∷ notes) [] all = absurd all
  noted_long (seat ∷ seats) (n ∷ notes) (tally ∷ tallies) all = omega (arith, noted_long seats notes tallies all.1)

  -- the answers of clerks who are numbered from this one on
  record AreNotedFrom (first : ℕ) (seats : List SeatView) (notes : List K) (tallies : List TallyView) : Type 0 where
    lists : List (List SharedReply)
    held : AllHold hold notes lists
    many : (place : ℕ) → place < length lists → length (list_at place lists) ≡ length (works_of (first + place) rows)
    worked : (answers : List SharedReply) → ((place : ℕ) → place < length lists → list_at place lists ≡ answers_of (first + place) rows answers) → AllWorked setup rows answers seats tallies

  many_at : (first : ℕ) (mine : List SharedReply) (lists : List (List SharedReply)) → length mine ≡ length (works_of (first + 0) rows) → ((place : ℕ) → place < length lists → length (list_at place lists) ≡ length (works_of (first + 1 + place) rows)) → (place : ℕ) → place < length (mine ∷ lists) → length (list_at place (mine ∷ lists)) ≡ length (works_of (first + place) rows)
  many_at first mine lists here later zero lt = here
  many_at first mine lists here later (suc place) lt =
      let next : first + 1 + place ≡ first + suc place = omega arith in
      later place (omega (arith, lt)) ∙ ap (λ k. length (works_of k rows)) next

  noted_from : (first : ℕ) (seats : List SeatView) (notes : List K) (tallies : List TallyView) → AllNoted hold setup rows seats notes tallies → AreNumbered first seats → AreNotedFrom first seats notes tallies
  noted_from first [] [] [] all numbered = record { lists = []; held = tt; many = λ place lt. absurd (omega (arith, lt)); worked = λ answers merged. tt }
  noted_from first [] [] (tally ∷ tallies) all numbered = absurd all
  noted_from first [] (n ∷ notes) tallies all numbered = absurd all
  noted_from first (seat ∷ seats) [] tallies all numbered = absurd all
  noted_from first (seat ∷ seats) (n ∷ notes) [] all numbered = absurd all
  noted_from first (seat ∷ seats) (n ∷ notes) (tally ∷ tallies) all numbered =
      let rest = noted_from (first + 1) seats notes tallies all.1 numbered.1 in
      let mine = all.0.answers in
      let here : seat.number ≡ first + 0 = numbered.0 ∙ omega arith in
      record {
        lists = mine ∷ rest.lists;
        held = (all.0.held, rest.held);
        many = λ place lt. many_at first mine rest.lists (as_many setup seat.limit seat.number tally.seen seat.seen (works_of seat.number rows) mine all.0.worked.answered ∙ ap (λ k. length (works_of k rows)) here) rest.many place lt;
        worked = λ answers merged.
            let own : mine ≡ answers_of seat.number rows answers = merged 0 (omega arith) ∙ ap (λ k. answers_of k rows answers) (omega (arith, here)) in
            let P : List SharedReply → Type 0 = λ each. HasWorked setup seat (works_of seat.number rows) each tally in (
              subst P own all.0.worked,
              rest.worked answers (λ place lt.
                  let next : first + suc place ≡ first + 1 + place = omega arith in
                  merged (suc place) (omega (arith, lt)) ∙ ap (λ k. answers_of k rows answers) next),
            );
      }

  -- where the notes and tallies are of seats that are in order
  pub are_noted : (seats : List SeatView) (notes : List K) (tallies : List TallyView) → AllNoted hold setup rows seats notes tallies → AreInOrder seats → AreNoted hold setup rows seats notes tallies
  are_noted seats notes tallies all in_order =
      let from = noted_from 1 seats notes tallies all in_order in
      record {
        lists = from.lists;
        held = from.held;
        as_many = λ place lt. let on : 1 + place ≡ place + 1 = omega arith in from.many place lt ∙ ap (λ k. length (works_of k rows)) on;
        worked = λ answers merged. from.worked answers (λ place lt. let on : place + 1 ≡ 1 + place = omega arith in merged place lt ∙ ap (λ k. answers_of k rows answers) on);
      }
