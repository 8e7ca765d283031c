-- Turns of many sessions on one file.
use Rattle.std.proofs.Common.{◌≡◌, ◌∙◌, ◌≤◌, ◌+◌, ◌-◌, ℕ, List, [], ◌∷◌, ◌++◌, drop, map, take, refl, sym, ap, append_assoc, append-nil}
use Rattle.std.proofs.lemmas.List.{take-append-drop, take-take}
use Rattle.desk_journal.specs.Words.{StandsFor}
use Rattle.desk_session.specs.Taken.{left_by}
use Rattle.desk_session.specs.Turns.{AreTurns, IsInPlace, Turn, after_turns, last_file, left_in}

pub one_history : (found : List ℕ) (first : List (List ℕ)) (turns : List (Turn × List ℕ)) → StandsFor found first → AreTurns found turns
    → StandsFor (last_file found turns) (after_turns (map (λ (turn : Turn × List ℕ). turn.0) turns) first)
unfolding AreTurns last_file after_turns
one_history found first [] stands are = stands
one_history found first ((turn, left) ∷ turns) stands (leaves, are) = one_history left (first ++ left_in turn first) turns (leaves first stands) are

-- what turns add is at the end
grown : (turns : List Turn) (before : List (List ℕ)) → (more : List (List ℕ)) × (after_turns turns before ≡ before ++ more)
unfolding after_turns
grown [] before = ([], sym (append-nil before))
grown (turn ∷ turns) before =
    let (more, is) = grown turns (before ++ left_in turn before) in
    (left_in turn before ++ more, is ∙ append_assoc before (left_in turn before) more)

after_both : (earlier later : List Turn) (first : List (List ℕ)) → after_turns (earlier ++ later) first ≡ after_turns later (after_turns earlier first)
unfolding after_turns
after_both [] later first = refl
after_both (turn ∷ earlier) later first = after_both earlier later (first ++ left_in turn first)

-- what lines leave, one after another
left_both : (leaves : List (List ℕ) → List ℕ → List (List ℕ)) (before some others : List (List ℕ)) → left_by leaves before (some ++ others) ≡ left_by leaves before some ++ left_by leaves (before ++ left_by leaves before some) others
unfolding left_by
left_both leaves before [] others = ap (λ (b : List (List ℕ)). left_by leaves b others) (sym (append-nil before))
left_both leaves before (line ∷ some) others =
    ap (λ (l : List (List ℕ)). leaves before line ++ l) (left_both leaves (before ++ leaves before line) some others)
    ∙ sym (append_assoc (leaves before line) (left_by leaves (before ++ leaves before line) some) _)
    ∙ ap (λ (b : List (List ℕ)). (leaves before line ++ left_by leaves (before ++ leaves before line) some) ++ left_by leaves b others) (append_assoc before (leaves before line) (left_by leaves (before ++ leaves before line) some))

left_line : (leaves : List (List ℕ) → List ℕ → List (List ℕ)) (before : List (List ℕ)) (line : List ℕ) (others : List (List ℕ)) → left_by leaves before (line ∷ others) ≡ leaves before line ++ left_by leaves (before ++ leaves before line) others
unfolding left_by
left_line leaves before line others = refl

pub in_place : (first : List (List ℕ)) (earlier : List Turn) (turn : Turn) (later : List Turn) (some : List (List ℕ)) (line : List ℕ) (others : List (List ℕ))
    → take turn.kept turn.lines ≡ some ++ line ∷ others
    → IsInPlace (after_turns (earlier ++ turn ∷ later) first) (after_turns earlier first) turn some line
unfolding after_turns
in_place first earlier turn later some line others parts =
    let before = after_turns earlier first in
    let at = before ++ left_by turn.leaves before some in
    let rest = left_by turn.leaves (at ++ turn.leaves at line) others in
    let (more, is) = grown later (before ++ left_in turn before) in
    let left : left_in turn before ≡ left_by turn.leaves before some ++ (turn.leaves at line ++ rest) =
    ap (left_by turn.leaves before) parts ∙ left_both turn.leaves before some (line ∷ others) ∙ ap (λ (l : List (List ℕ)). left_by turn.leaves before some ++ l) (left_line turn.leaves at line others) in record {
      more = rest ++ more;
      place =
          after_both earlier (turn ∷ later) first
          ∙ is
          ∙ ap (λ (l : List (List ℕ)). (before ++ l) ++ more) left
          ∙ ap (λ (l : List (List ℕ)). l ++ more) (sym (append_assoc before (left_by turn.leaves before some) (turn.leaves at line ++ rest)))
          ∙ append_assoc at (turn.leaves at line ++ rest) more
          ∙ ap (λ (l : List (List ℕ)). at ++ l) (append_assoc (turn.leaves at line) rest more);
    }

pub told_kept : (turn : Turn) (before : List (List ℕ)) → turn.told ≤ turn.kept → (others : List (List ℕ)) × (take turn.kept turn.lines ≡ take turn.told turn.lines ++ others)
told_kept turn before within = (
  drop turn.told (take turn.kept turn.lines),
  sym (take-append-drop turn.told (take turn.kept turn.lines)) ∙ ap (λ (l : List (List ℕ)). l ++ drop turn.told (take turn.kept turn.lines)) (take-take turn.told turn.kept turn.lines within),
)
