-- What comes of lines that are taken one after another.
use Rattle.std.proofs.Common.{◌≡◌, ◌∙◌, ℕ, Bool, List, [], ◌∷◌, ◌++◌, None, refl, sym, ap, append_assoc, append-nil}
use Rattle.desk_session.specs.declared.outcome.Outcome.{Outcome}
use Rattle.desk_session.specs.declared.outcome.Tally.{Tally}
use Rattle.desk_session.specs.Outcomes.{counted_with, tally_after}
use Rattle.desk_session.specs.Stopped.{first_stopped, or_later, stopped_as}
use Rattle.desk_session.specs.Taken.{left_by}

module _ (leaves : List (List ℕ) → List ℕ → List (List ℕ)) (outcome : List (List ℕ) → List ℕ → Outcome) where
  pub none_counted : (tally : Tally) (kept : List (List ℕ)) → tally_after leaves outcome tally kept [] ≡ tally
  unfolding tally_after
  none_counted tally kept = refl

  pub one_counted : (tally : Tally) (kept : List (List ℕ)) (line : List ℕ) → tally_after leaves outcome tally kept (line ∷ []) ≡ counted_with tally (outcome kept line)
  unfolding tally_after
  one_counted tally kept line = refl

  pub counted-append : (tally : Tally) (kept some more : List (List ℕ)) → tally_after leaves outcome tally kept (some ++ more) ≡ tally_after leaves outcome (tally_after leaves outcome tally kept some) (kept ++ left_by leaves kept some) more
  unfolding left_by tally_after
  counted-append tally kept [] more = ap (λ (k : List (List ℕ)). tally_after leaves outcome tally k more) (sym (append-nil kept))
  counted-append tally kept (line ∷ some) more =
      counted-append (counted_with tally (outcome kept line)) (kept ++ leaves kept line) some more
      ∙ ap (λ (k : List (List ℕ)). tally_after leaves outcome (tally_after leaves outcome (counted_with tally (outcome kept line)) (kept ++ leaves kept line) some) k more) (append_assoc kept (leaves kept line) (left_by leaves (kept ++ leaves kept line) some))

module _ (leaves : List (List ℕ) → List ℕ → List (List ℕ)) (answers : List (List ℕ) → List ℕ → List ℕ) (outcome : List (List ℕ) → List ℕ → Outcome) (keep : Bool) where
  pub first_stopped-one : (kept : List (List ℕ)) (number : ℕ) (line : List ℕ) (lines : List (ℕ × List ℕ)) → first_stopped leaves answers outcome keep kept ((number, line) ∷ lines) ≡ or_later (stopped_as keep (outcome kept line) number (answers kept line)) (first_stopped leaves answers outcome keep (kept ++ leaves kept line) lines)
  unfolding first_stopped
  first_stopped-one kept number line lines = refl

  pub first_stopped-none : (kept : List (List ℕ)) → first_stopped leaves answers outcome keep kept [] ≡ None
  unfolding first_stopped
  first_stopped-none kept = refl
