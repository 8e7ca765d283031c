-- Lines that came together, taken one after another.
use Rattle.std.proofs.Common.{◌≡◌, ◌∙◌, ◌+◌, ◌<◌, ◌≤◌, ◌==◌, ℕ, Bool, true, false, cond, List, [], ◌∷◌, ◌++◌, Option, None, Some, length, sym, ap, subst, arith, append_assoc, append-nil}
use Rattle.std.proofs.lemmas.List.{length-append}
use Rattle.desk_session.specs.declared.outcome.Outcome.{Outcome}
use Rattle.desk_session.specs.Faults.{HasLongLine}
use Rattle.desk_session.specs.Lines.{HasNoEnd, IsFirstLine, lines_from, lines_of, number_after, numbered_from, unfinished_from, unfinished_of}
use Rattle.desk_session.specs.Stopped.{Stopped, first_stopped, or_later, stopped_as}
use Rattle.desk_session.proofs.LineLemmas.{finished_by, lines_from-append, lines_of_first, lines_of_none, numbered_from-first, numbered_from-none, unfinished_from-append, unfinished_within}
use Rattle.desk_session.proofs.OutcomeLemmas.{first_stopped-none, first_stopped-one}

-- the front of an input with one line more
pub front_with : (input front rest line : List ℕ) (end : ℕ) (after : List ℕ) → input ≡ front ++ rest → IsFirstLine rest line end after → input ≡ (front ++ (line ++ end ∷ [])) ++ after
front_with input front rest line end after parts first =
    parts ∙ ap (λ (r : List ℕ). front ++ r) (first.parts ∙ sym (append_assoc line (end ∷ []) after)) ∙ sym (append_assoc front (line ++ end ∷ []) after)

pub front_finished : (front rest line : List ℕ) (end : ℕ) (after : List ℕ) → IsFirstLine rest line end after → unfinished_of (front ++ (line ++ end ∷ [])) ≡ []
front_finished front rest line end after first =
    ap unfinished_of (sym (append_assoc front line (end ∷ []))) ∙ finished_by [] (front ++ line) end first.ends

pub front_lines : (front rest line : List ℕ) (end : ℕ) (after : List ℕ) → unfinished_of front ≡ [] → IsFirstLine rest line end after → lines_of (front ++ (line ++ end ∷ [])) ≡ lines_of front ++ line ∷ []
front_lines front rest line end after none first =
    lines_from-append [] front (line ++ end ∷ [])
    ∙ ap (λ (b : List ℕ). lines_of front ++ lines_from b (line ++ end ∷ [])) none
    ∙ ap (λ (l : List (List ℕ)). lines_of front ++ l) (lines_of_first line end first.within first.ends)

-- a line that is too long is so in its input
pub long_in : (input front rest line : List ℕ) (end : ℕ) (after : List ℕ) → input ≡ front ++ rest → unfinished_of front ≡ [] → IsFirstLine rest line end after → 65_536 < length line → HasLongLine [] input
long_in input front rest line end after parts none first long = (
  front ++ line,
  end ∷ after,
  parts ∙ ap (λ (r : List ℕ). front ++ r) first.parts ∙ sym (append_assoc front line (end ∷ after)),
  subst (λ (l : List ℕ). 65_536 < length l) (sym (unfinished_from-append [] front line ∙ ap (λ (b : List ℕ). unfinished_from b line) none ∙ unfinished_within [] line first.within)) long,
)

-- no line is left
pub all_lines : (input front rest : List ℕ) → input ≡ front ++ rest → unfinished_of front ≡ [] → HasNoEnd rest → lines_of front ≡ lines_of input
all_lines input front rest parts none no_end =
    sym (ap lines_of parts ∙ lines_from-append [] front rest ∙ ap (λ (b : List ℕ). lines_of front ++ lines_from b rest) none ∙ ap (λ (l : List (List ℕ)). lines_of front ++ l) (lines_of_none rest no_end) ∙ append-nil (lines_of front))

-- the number of the next line is no more than that of this one and the bytes of it
pub number_within : (number : ℕ) (rest line : List ℕ) (end : ℕ) (after : List ℕ) (most : ℕ) → IsFirstLine rest line end after → number + length rest ≤ most → number_after number end + length after ≤ most
number_within number rest line end after most first within = by (end == 10)
  where
    long : length rest ≡ length line + (length after + 1)
    long = ap length first.parts ∙ length-append line (end ∷ after) ∙ omega arith

    by : (feed : Bool) → cond feed (number + 1) number + length after ≤ most
    by true = omega (arith, within, long)
    by false = omega (arith, within, long)

module _ (leaves : List (List ℕ) → List ℕ → List (List ℕ)) (answers : List (List ℕ) → List ℕ → List ℕ) (outcome : List (List ℕ) → List ℕ → Outcome) (keep : Bool) (number : ℕ) (rest line : List ℕ) (end : ℕ) (after : List ℕ) where
  -- what the lines of the rest come to, by the first of them
  by_first : (kept : List (List ℕ)) → IsFirstLine rest line end after
      → first_stopped leaves answers outcome keep kept (numbered_from number [] rest) ≡ or_later (stopped_as keep (outcome kept line) number (answers kept line)) (first_stopped leaves answers outcome keep (kept ++ leaves kept line) (numbered_from (number_after number end) [] after))
  by_first kept first = ap (first_stopped leaves answers outcome keep kept) (numbered_from-first number rest line end after first) ∙ first_stopped-one leaves answers outcome keep kept number line (numbered_from (number_after number end) [] after)

  -- a list that stops at this line
  pub stops_here : (kept : List (List ℕ)) (all : Option Stopped) (stopped : Stopped) → IsFirstLine rest line end after → first_stopped leaves answers outcome keep kept (numbered_from number [] rest) ≡ all
      → stopped_as keep (outcome kept line) number (answers kept line) ≡ Some stopped → Some stopped ≡ all
  stops_here kept all stopped first so_far here =
      sym (by_first kept first ∙ ap (λ (s : Option Stopped). or_later s (first_stopped leaves answers outcome keep (kept ++ leaves kept line) (numbered_from (number_after number end) [] after))) here)
      ∙ so_far

  -- one that goes on after it
  pub goes_on : (kept then : List (List ℕ)) (all : Option Stopped) → then ≡ kept ++ leaves kept line → IsFirstLine rest line end after → first_stopped leaves answers outcome keep kept (numbered_from number [] rest) ≡ all
      → stopped_as keep (outcome kept line) number (answers kept line) ≡ None
      → first_stopped leaves answers outcome keep then (numbered_from (number_after number end) [] after) ≡ all
  goes_on kept then all then_is first so_far here =
      ap (λ (k : List (List ℕ)). first_stopped leaves answers outcome keep k (numbered_from (number_after number end) [] after)) then_is
      ∙ sym (by_first kept first ∙ ap (λ (s : Option Stopped). or_later s (first_stopped leaves answers outcome keep (kept ++ leaves kept line) (numbered_from (number_after number end) [] after))) here)
      ∙ so_far

  -- one in which no line is left
  pub never_stops : (kept : List (List ℕ)) (all : Option Stopped) → HasNoEnd rest → first_stopped leaves answers outcome keep kept (numbered_from number [] rest) ≡ all → None ≡ all
  never_stops kept all none so_far =
      sym (ap (first_stopped leaves answers outcome keep kept) (numbered_from-none number rest none) ∙ first_stopped-none leaves answers outcome keep kept) ∙ so_far
