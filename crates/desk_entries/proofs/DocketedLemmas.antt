-- What a docket comes to, after one entry more and after lines.
use Rattle.std.proofs.Common.{◌≡◌, ◌∙◌, ◌&&◌, ℕ, Bool, true, false, not, List, [], ◌∷◌, ◌++◌, None, Some, refl, sym, ap, subst}
use Rattle.std.specs.Prelude.{IsSome, is_some, nat_lt}
use Rattle.std.specs.List.{list_all}
use Rattle.desk_session.specs.Taken.{left_by}
use Rattle.desk_numbers.specs.declared.strikes.restore.Restore.{Restore as RestoreOf}
use Rattle.desk_numbers.specs.declared.strikes.strike.Strike.{Strike as StrikeOf}
use Rattle.desk_numbers.specs.Strikes.Words.{CorrectionsView, all_before, is_among, is_struck, no_corrections}
use Rattle.desk_numbers.proofs.StrikesLemmas.CallerLemmas.{still_before}
use Rattle.desk_register.specs.declared.standing.Standing.{Standing}
use Rattle.desk_register.specs.Words.{CanBe, IsReadyAt, MayFollow, Note, SaysCourt, SaysNumbers, StandsAfter, StandsAt, can_restore, can_strike, corrections_then, court_file, file_after, file_with, follows, leaves, next_number, note_in, row_restored, row_struck, standing_file, struck_by, struck_in}
use Rattle.desk_register.proofs.CallerLemmas.{before-note, before-row, before_strike, left_history, none_kept, none_struck, note_follows, row_follows, stands_after_note, stands_after_row}
use Rattle.desk_entries.specs.declared.docketed.Docketed.{Docketed}
use Rattle.desk_entries.specs.Docketed.{IsDocketed}

-- what a docket comes to after a row
pub docketed_row : (docketed after : Docketed) (before : List (List ℕ)) (entry : List ℕ) → IsDocketed docketed before → note_in entry ≡ None
    → after.standing ≡ docketed.standing → StandsAt docketed.standing after.register (before ++ entry ∷ []) → IsDocketed after (before ++ entry ∷ [])
docketed_row docketed after before entry is none same stands =
    let begun = is.stands.at.begun in
    record {
      standing = subst (StandsAfter (before ++ entry ∷ [])) (sym same) (stands_after_row docketed.standing before entry begun none is.standing);
      stands = subst (λ (u : Standing). IsReadyAt u after.register (before ++ entry ∷ [])) (sym same) (record { at = stands; before = before-row docketed.standing.corrections before entry begun none is.stands.before });
    }

-- such a row may follow
pub row_may_follow : (docketed : Docketed) (before : List (List ℕ)) (entry : List ℕ) → IsDocketed docketed before → note_in entry ≡ None → follows docketed.standing before entry → MayFollow before entry
row_may_follow docketed before entry is none may = row_follows docketed.standing before entry none is.standing may

-- what a strike that can be made says of its row
strikes_before : (kept : List (List ℕ)) (struck : StrikeOf) → can_strike kept struck ≡ true → nat_lt struck.row (next_number kept) ≡ true
strikes_before kept struck can = by (nat_lt 0 struck.row) (nat_lt struck.row (next_number kept)) (is_among (struck_in kept) struck.row) can
  where
    by : (a b c : Bool) → (a && b && not c) ≡ true → b ≡ true
    by true true c h = refl
    by true false c h = cc h
    by false b c h = cc h

-- the rows that are struck after a note that can be made come before the next
pub still_struck : (struck : List ℕ) (kept : List (List ℕ)) (note : Note) → list_all (λ row. nat_lt row (next_number kept)) struck ≡ true → CanBe note kept → list_all (λ row. nat_lt row (next_number kept)) (struck_by struck (Some note)) ≡ true
still_struck struck kept (court_file later) all can = all
still_struck struck kept (row_struck strike) all can = before_strike struck strike.row (next_number kept) all (strikes_before kept strike can)
still_struck struck kept (row_restored restore) all can = still_before struck restore.row (next_number kept) all

-- what a docket comes to after a note that says what rows gave
pub docketed_note : (docketed after : Docketed) (before : List (List ℕ)) (entry : List ℕ) (note : Note) → IsDocketed docketed before → note_in entry ≡ Some note → CanBe note before → SaysNumbers docketed.standing before entry
    → SaysCourt (file_with (standing_file before) (Some note)) after.standing.court → after.standing.corrections ≡ corrections_then docketed.standing before (struck_by docketed.standing.corrections.struck (Some note))
    → StandsAt after.standing after.register (before ++ entry ∷ []) → IsDocketed after (before ++ entry ∷ [])
docketed_note docketed after before entry note is some can says court same stands =
    let begun = is.stands.at.begun in
    let noted : IsSome (note_in entry) = ap is_some some in
    record {
      standing = stands_after_note docketed.standing after.standing before entry note begun some is.standing says court same;
      stands = record {
        at = stands;
        before = before-note after.standing.corrections before entry begun noted
            (ap (λ (c : CorrectionsView). list_all (λ row. nat_lt row (next_number before)) c.struck) same ∙ still_struck docketed.standing.corrections.struck before note is.stands.before can);
      };
    }

-- such a note may follow
pub note_may_follow : (docketed : Docketed) (before : List (List ℕ)) (entry : List ℕ) (note : Note) → IsDocketed docketed before → note_in entry ≡ Some note → CanBe note before → SaysNumbers docketed.standing before entry → MayFollow before entry
note_may_follow docketed before entry note is some can says = note_follows docketed.standing before entry note some can is.standing says

-- what a docket comes to before its first row
pub first_docketed : (docketed : Docketed) (first : List ℕ) → SaysCourt first docketed.standing.court → docketed.standing.corrections ≡ no_corrections → StandsAt docketed.standing docketed.register (first ∷ []) → IsDocketed docketed (first ∷ [])
unfolding file_after
first_docketed docketed first says none stands = record {
  standing = record {
    court = says;
    struck = ap (λ (c : CorrectionsView). c.struck) none ∙ sym (none_struck first);
    numbers = ap (λ (c : CorrectionsView). c.kept) none ∙ sym (none_kept first);
  };
  stands = record { at = stands; before = ap (λ (c : CorrectionsView). all_before c (next_number (first ∷ []))) none };
}

-- and after lines
pub left_docketed : (docketed after : Docketed) (kept lines : List (List ℕ)) → IsDocketed docketed kept → after.standing ≡ docketed.standing
    → IsReadyAt docketed.standing after.register (kept ++ left_by (leaves docketed.standing) kept lines) → IsDocketed after (kept ++ left_by (leaves docketed.standing) kept lines)
left_docketed docketed after kept lines is same stands = record {
  standing = subst (StandsAfter (kept ++ left_by (leaves docketed.standing) kept lines)) (sym same) (left_history docketed.standing kept lines is.stands.at.begun is.standing).0;
  stands = subst (λ (u : Standing). IsReadyAt u after.register (kept ++ left_by (leaves docketed.standing) kept lines)) (sym same) stands;
}

-- whether a row can be struck, as the docket sees it
pub can_is : (docketed : Docketed) (kept : List (List ℕ)) (struck : StrikeOf) (next : ℕ) → IsDocketed docketed kept → next ≡ next_number kept
    → (nat_lt 0 struck.row && nat_lt struck.row next && not (is_struck docketed.standing.corrections struck.row)) ≡ can_strike kept struck
can_is docketed kept struck next is same =
    ap (λ (n : ℕ). nat_lt 0 struck.row && nat_lt struck.row n && not (is_struck docketed.standing.corrections struck.row)) same
    ∙ ap (λ (s : List ℕ). nat_lt 0 struck.row && nat_lt struck.row (next_number kept) && not (is_among s struck.row)) is.standing.struck

-- and whether it can be restored
pub can_be_restored : (docketed : Docketed) (kept : List (List ℕ)) (restored : RestoreOf) → IsDocketed docketed kept → is_struck docketed.standing.corrections restored.row ≡ can_restore kept restored
can_be_restored docketed kept restored is = ap (λ (s : List ℕ). is_among s restored.row) is.standing.struck
