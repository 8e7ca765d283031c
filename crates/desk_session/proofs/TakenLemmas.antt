-- What lines leave that are taken one after another.
use Rattle.std.proofs.Common.{◌≡◌, ◌∙◌, ℕ, Bool, true, false, List, [], ◌∷◌, ◌++◌, refl, sym, ap, subst, append_assoc, append-nil}
use Rattle.std.specs.Prelude.{IsTrue}
use Rattle.desk_session.specs.Taken.{TakesLine, TakesLines, left_by, told_to}

module _ (leaves : List (List ℕ) → List ℕ → List (List ℕ)) (answers : List (List ℕ) → List ℕ → List ℕ) where
  pub left_by-nil : (kept : List (List ℕ)) → left_by leaves kept [] ≡ []
  unfolding left_by
  left_by-nil kept = refl

  pub told_to-nil : (kept : List (List ℕ)) → told_to leaves answers kept [] ≡ []
  unfolding told_to
  told_to-nil kept = refl

  -- nothing is added to the entries
  pub none_left : (kept : List (List ℕ)) → kept ++ left_by leaves kept [] ≡ kept
  none_left kept = ap (λ (l : List (List ℕ)). kept ++ l) (left_by-nil kept) ∙ append-nil kept

  pub left_by-append : (kept some more : List (List ℕ)) → left_by leaves kept (some ++ more) ≡ left_by leaves kept some ++ left_by leaves (kept ++ left_by leaves kept some) more
  unfolding left_by
  left_by-append kept [] more = ap (λ (l : List (List ℕ)). left_by leaves l more) (sym (append-nil kept))
  left_by-append kept (line ∷ some) more =
      ap (λ (l : List (List ℕ)). leaves kept line ++ l) (left_by-append (kept ++ leaves kept line) some more)
      ∙ sym (append_assoc (leaves kept line) (left_by leaves (kept ++ leaves kept line) some) _)
      ∙ ap (λ (l : List (List ℕ)). (leaves kept line ++ left_by leaves (kept ++ leaves kept line) some) ++ left_by leaves l more) (append_assoc kept (leaves kept line) (left_by leaves (kept ++ leaves kept line) some))

  pub told_to-append : (kept some more : List (List ℕ)) → told_to leaves answers kept (some ++ more) ≡ told_to leaves answers kept some ++ told_to leaves answers (kept ++ left_by leaves kept some) more
  unfolding left_by told_to
  told_to-append kept [] more = ap (λ (l : List (List ℕ)). told_to leaves answers l more) (sym (append-nil kept))
  told_to-append kept (line ∷ some) more =
      ap (λ (l : List ℕ). answers kept line ++ l) (told_to-append (kept ++ leaves kept line) some more)
      ∙ sym (append_assoc (answers kept line) (told_to leaves answers (kept ++ leaves kept line) some) _)
      ∙ ap (λ (l : List (List ℕ)). (answers kept line ++ told_to leaves answers (kept ++ leaves kept line) some) ++ told_to leaves answers l more) (append_assoc kept (leaves kept line) (left_by leaves (kept ++ leaves kept line) some))

  -- the entries with those of some lines and then of others
  pub all_left : (kept some more : List (List ℕ)) → kept ++ left_by leaves kept (some ++ more) ≡ (kept ++ left_by leaves kept some) ++ left_by leaves (kept ++ left_by leaves kept some) more
  all_left kept some more =
      ap (λ (l : List (List ℕ)). kept ++ l) (left_by-append kept some more)
      ∙ sym (append_assoc kept (left_by leaves kept some) _)

  pub one_left : (kept : List (List ℕ)) (line : List ℕ) → left_by leaves kept (line ∷ []) ≡ leaves kept line
  unfolding left_by
  one_left kept line = append-nil (leaves kept line)

  pub one_told : (kept : List (List ℕ)) (line : List ℕ) → told_to leaves answers kept (line ∷ []) ≡ answers kept line
  unfolding told_to
  one_told kept line = append-nil (answers kept line)

  -- no line is taken yet
  pub none_taken : (Stands : List (List ℕ) → Type 0) (kept batch : List (List ℕ)) (text : List ℕ) → Stands kept → TakesLines leaves answers Stands kept [] batch batch text text
  none_taken Stands kept batch text stands =
      record {
        stands = subst Stands (sym (none_left kept)) stands;
        left = sym (append-nil batch) ∙ ap (λ (l : List (List ℕ)). batch ++ l) (sym (left_by-nil kept));
        told = sym (append-nil text) ∙ ap (λ (l : List ℕ). text ++ l) (sym (told_to-nil kept));
      }

  -- one line is taken
  pub one_taken : (Stands : List (List ℕ) → Type 0) (kept : List (List ℕ)) (line : List ℕ) (batch batch_after : List (List ℕ)) (text text_after : List ℕ)
      → TakesLine leaves answers Stands kept line batch batch_after text text_after → TakesLines leaves answers Stands kept (line ∷ []) batch batch_after text text_after
  one_taken Stands kept line batch batch_after text text_after taken =
      record {
        stands = subst Stands (sym (ap (λ (l : List (List ℕ)). kept ++ l) (one_left kept line))) taken.stands;
        left = taken.left ∙ ap (λ (l : List (List ℕ)). batch ++ l) (sym (one_left kept line));
        told = taken.told ∙ ap (λ (l : List ℕ). text ++ l) (sym (one_told kept line));
      }

  -- lines that are taken, and then others
  pub more_taken : (Stands Then : List (List ℕ) → Type 0) (kept some more : List (List ℕ)) (batch so_far batch_after : List (List ℕ)) (text said text_after : List ℕ)
      → TakesLines leaves answers Stands kept some batch so_far text said
      → TakesLines leaves answers Then (kept ++ left_by leaves kept some) more so_far batch_after said text_after
      → TakesLines leaves answers Then kept (some ++ more) batch batch_after text text_after
  more_taken Stands Then kept some more batch so_far batch_after text said text_after first second =
      record {
        stands = subst Then (sym (all_left kept some more)) second.stands;
        left = second.left ∙ ap (λ (l : List (List ℕ)). l ++ left_by leaves (kept ++ left_by leaves kept some) more) first.left
            ∙ append_assoc batch (left_by leaves kept some) _
            ∙ ap (λ (l : List (List ℕ)). batch ++ l) (sym (left_by-append kept some more));
        told = second.told ∙ ap (λ (l : List ℕ). l ++ told_to leaves answers (kept ++ left_by leaves kept some) more) first.told
            ∙ append_assoc text (told_to leaves answers kept some) _
            ∙ ap (λ (l : List ℕ). text ++ l) (sym (told_to-append kept some more));
      }

-- a truth value is not both
pub not_both : (b : Bool) → b ≡ false → IsTrue b → ⊥
not_both true e t = cc e
not_both false e t = cc t
