-- A walk along entries, after one more.
use Rattle.std.proofs.Common.{◌≡◌, ◌∙◌, ◌+◌, ◌&&◌, ℕ, not, List, [], ◌∷◌, ◌++◌, Option, Some, None, length, length-append, refl, sym, ap, subst, arith}
use Rattle.std.specs.Prelude.{IsSome, is_some, nat_lt}
use Rattle.std.specs.List.{list_all}
use Rattle.desk_numbers.specs.declared.given.Given.{Given}
use Rattle.desk_numbers.specs.declared.strikes.restore.Restore.{Restore}
use Rattle.desk_numbers.specs.declared.strikes.strike.Strike.{Strike}
use Rattle.desk_numbers.specs.Words.{kept_with}
use Rattle.desk_numbers.specs.Strikes.Words.{all_before, is_among, is_struck, said_in}
use Rattle.desk_entries.specs.declared.what_stands.Walk.{Walk}
use Rattle.desk_register.specs.Words.{CanBe, Note, SaysCourt, can_restore, can_strike, file_with, kept_as, kept_in, next_number, note_in, row_entries, rows_among, standing_file, struck_by, struck_in}
use Rattle.desk_entries.specs.Inside.Walk.{IsWalked}
use Rattle.desk_entries.proofs.DocketedLemmas.{still_struck}
use Rattle.desk_register.proofs.CallerLemmas.{before-note, before-row, kept_in-more, next_number-note, next_number-row, none_kept, none_struck, standing_file-more, struck_in-more}

-- a court's file alone has no rows
none_yet : (first : List ℕ) → 1 ≡ next_number (first ∷ [])
unfolding rows_among
none_yet first = refl

-- before the entries after the first
pub first_walked : (walk : Walk) (first : List ℕ) → SaysCourt (standing_file (first ∷ [])) walk.court → walk.corrections.struck ≡ [] → walk.kept.items ≡ [] → walk.rows ≡ 0 → IsWalked walk (first ∷ [])
first_walked walk first court struck kept rows = record {
  begun = omega arith;
  court = court;
  struck = struck ∙ sym (none_struck first);
  numbers = kept ∙ sym (none_kept first);
  rows = ap (λ (n : ℕ). n + 1) rows ∙ none_yet first;
  before = ap (list_all (λ row. nat_lt row (next_number (first ∷ [])))) struck;
}

-- how many rows there are
rows_are : (walk : Walk) (before : List (List ℕ)) → IsWalked walk before → walk.rows ≡ length (row_entries before)
rows_are walk before is = omega (arith, is.rows)

-- after a note that can be made
pub walked_note : (walk after : Walk) (before : List (List ℕ)) (entry : List ℕ) (note : Note) → IsWalked walk before → note_in entry ≡ Some note → CanBe note before
    → SaysCourt (file_with (standing_file before) (Some note)) after.court → after.corrections.struck ≡ struck_by walk.corrections.struck (Some note)
    → after.kept.items ≡ kept_with walk.kept.items walk.rows (said_in entry) → after.rows ≡ walk.rows → IsWalked after (before ++ entry ∷ [])
walked_note walk after before entry note is some can court struck kept rows =
    let noted : IsSome (note_in entry) = ap is_some some in
    record {
      begun = omega (arith, is.begun, length-append before (entry ∷ []));
      court = subst (λ (f : List ℕ). SaysCourt f after.court) (sym (standing_file-more before entry is.begun ∙ ap (file_with (standing_file before)) some)) court;
      struck = struck ∙ ap (λ (s : List ℕ). struck_by s (Some note)) is.struck ∙ sym (struck_in-more before entry is.begun ∙ ap (struck_by (struck_in before)) some);
      numbers = kept ∙ ap (λ (l : List (Option Given)). kept_with l walk.rows (said_in entry)) is.numbers ∙ ap (λ (n : ℕ). kept_with (kept_in before) n (said_in entry)) (rows_are walk before is)
          ∙ sym (kept_in-more before entry is.begun ∙ ap (λ (n : Option Note). kept_as n (length (row_entries before)) (kept_in before) entry) some);
      rows = ap (λ (n : ℕ). n + 1) rows ∙ is.rows ∙ sym (next_number-note before entry is.begun noted);
      before = before-note after.corrections before entry is.begun noted (ap (list_all (λ row. nat_lt row (next_number before))) struck ∙ still_struck walk.corrections.struck before note is.before can);
    }

-- and after a row
pub walked_row : (walk after : Walk) (before : List (List ℕ)) (entry : List ℕ) → IsWalked walk before → note_in entry ≡ None → after.court ≡ walk.court → after.corrections ≡ walk.corrections → after.kept ≡ walk.kept → after.rows ≡ walk.rows + 1
    → IsWalked after (before ++ entry ∷ [])
walked_row walk after before entry is none court corrections kept rows = record {
  begun = omega (arith, is.begun, length-append before (entry ∷ []));
  court = subst (λ (f : List ℕ). SaysCourt f after.court) (sym (standing_file-more before entry is.begun ∙ ap (file_with (standing_file before)) none)) (subst (SaysCourt (standing_file before)) (sym court) is.court);
  struck = ap (λ c. c.struck) corrections ∙ is.struck ∙ sym (struck_in-more before entry is.begun ∙ ap (struck_by (struck_in before)) none);
  numbers = ap (λ k. k.items) kept ∙ is.numbers ∙ sym (kept_in-more before entry is.begun ∙ ap (λ (n : Option Note). kept_as n (length (row_entries before)) (kept_in before) entry) none);
  rows = ap (λ (n : ℕ). n + 1) rows ∙ ap (λ (n : ℕ). n + 1) is.rows ∙ sym (next_number-row before entry is.begun none);
  before = before-row after.corrections before entry is.begun none (ap (λ c. all_before c (next_number before)) corrections ∙ is.before);
}

-- whether a row can be struck, as the walk sees it
pub can_be_struck : (walk : Walk) (before : List (List ℕ)) (strike : Strike) → IsWalked walk before
    → (nat_lt 0 strike.row && nat_lt strike.row (walk.rows + 1) && not (is_struck walk.corrections strike.row)) ≡ can_strike before strike
can_be_struck walk before strike is =
    ap (λ (n : ℕ). nat_lt 0 strike.row && nat_lt strike.row n && not (is_struck walk.corrections strike.row)) is.rows
    ∙ ap (λ (s : List ℕ). nat_lt 0 strike.row && nat_lt strike.row (next_number before) && not (is_among s strike.row)) is.struck

-- and whether it can be restored
pub can_be_restored : (walk : Walk) (before : List (List ℕ)) (restore : Restore) → IsWalked walk before → is_struck walk.corrections restore.row ≡ can_restore before restore
can_be_restored walk before restore is = ap (λ (s : List ℕ). is_among s restore.row) is.struck
