-- The changes to entries, after one more.
use Rattle.std.proofs.Common.{◌≡◌, ◌∙◌, ◌<◌, ℕ, List, [], ◌∷◌, ◌++◌, length, refl, sym, ap, append_assoc, append-nil, arith}
use Rattle.desk_register.specs.declared.standing.Standing.{Standing}
use Rattle.desk_register.specs.Words.{Change, change_as, note_in}
use Rattle.desk_entries.specs.Review.{changes_after, changes_by}

changes_after-append : (under : Standing) (kept some more : List (List ℕ)) → changes_after under kept (some ++ more) ≡ changes_after under kept some ++ changes_after under (kept ++ some) more
unfolding changes_after
changes_after-append under kept [] more = ap (λ (l : List (List ℕ)). changes_after under l more) (sym (append-nil kept))
changes_after-append under kept (entry ∷ some) more =
    ap (λ (l : List Change). change_as (note_in entry) under kept entry ++ l) (changes_after-append under (kept ++ entry ∷ []) some more)
    ∙ sym (append_assoc (change_as (note_in entry) under kept entry) (changes_after under (kept ++ entry ∷ []) some) _)
    ∙ ap (λ (l : List (List ℕ)). (change_as (note_in entry) under kept entry ++ changes_after under (kept ++ entry ∷ []) some) ++ changes_after under l more) (append_assoc kept (entry ∷ []) some)

one_change : (under : Standing) (kept : List (List ℕ)) (entry : List ℕ) → changes_after under kept (entry ∷ []) ≡ change_as (note_in entry) under kept entry
unfolding changes_after
one_change under kept entry = append-nil (change_as (note_in entry) under kept entry)

pub changes_by-more : (under : Standing) (kept : List (List ℕ)) (entry : List ℕ) → 0 < length kept → changes_by under (kept ++ entry ∷ []) ≡ changes_by under kept ++ change_as (note_in entry) under kept entry
changes_by-more under [] entry begun = absurd (omega (arith, begun))
changes_by-more under (file ∷ later) entry begun =
    changes_after-append under (file ∷ []) later (entry ∷ [])
    ∙ ap (λ (l : List Change). changes_after under (file ∷ []) later ++ l) (one_change under (file ∷ later) entry)

-- no changes to a court's file alone
pub none_first : (under : Standing) (file : List ℕ) → changes_by under (file ∷ []) ≡ []
unfolding changes_after
none_first under file = refl
