-- The changes to entries, after one more.
use Rattle.std.proofs.Common.{◌≡◌, ◌∙◌, ℕ, Bool, true, false, cond, List, [], ◌∷◌, Option, None, refl, sym, ap}
use Rattle.std.specs.Str.{bytes_eq}
use Rattle.std.proofs.lemmas.Slice.Eq.{bytes_eq-Decides}
use Rattle.case_numbers.specs.Words.{after_name}
use Rattle.desk_numbers.specs.Strikes.Words.{is_struck}
use Rattle.desk_register.specs.declared.standing.Standing.{Standing}
use Rattle.desk_register.specs.Differences.{Change, IsOtherwise, change_as, is_left}
use Rattle.desk_register.specs.Entries.{Note, next_number, note_in}
use Rattle.desk_register.specs.Rows.{follows, kept_answers, left_again}
use Rattle.desk_register.proofs.HistoryLemmas.{one_again}

-- an entry that isn't the next isn't what is left
not_left : (under : Standing) (kept : List (List ℕ)) (entry : List ℕ) → (follows under kept entry → ⊥) → is_left (left_again under kept entry) entry ≡ false
not_left under kept entry other = by (left_again under kept entry) refl
  where
    same : (made : List ℕ) → left_again under kept entry ≡ made ∷ [] → (b : Bool) → bytes_eq made entry ≡ b → b ≡ false
    same made is true e = absurd (other (is ∙ ap (λ (l : List ℕ). l ∷ []) ((bytes_eq-Decides made entry).0 e)))
    same made is false e = refl

    by : (left : List (List ℕ)) → left_again under kept entry ≡ left → is_left left entry ≡ false
    by [] is = refl
    by (made ∷ []) is = same made is (bytes_eq made entry) refl
    by (made ∷ other_one ∷ more) is = absurd (one_again under kept entry made other_one more is)

-- a row that isn't struck is changed as it is left
as_left : (under : Standing) (kept : List (List ℕ)) (entry : List ℕ) → note_in entry ≡ None → is_struck under.corrections (next_number kept) ≡ false
    → change_as (note_in entry) under kept entry ≡ cond (is_left (left_again under kept entry) entry) [] (record { number = next_number kept; entry = entry; answer = kept_answers under kept (after_name entry) } ∷ [])
as_left under kept entry none live =
    ap (λ (f : Option Note). change_as f under kept entry) none
    ∙ ap (λ (b : Bool). cond b [] (cond (is_left (left_again under kept entry) entry) [] (record { number = next_number kept; entry = entry; answer = kept_answers under kept (after_name entry) } ∷ []))) live

-- a row with another answer is a change
pub change_otherwise : (under : Standing) (kept : List (List ℕ)) (entry answer : List ℕ) → note_in entry ≡ None → is_struck under.corrections (next_number kept) ≡ false → IsOtherwise under kept entry answer
    → change_as (note_in entry) under kept entry ≡ record { number = next_number kept; entry = entry; answer = answer } ∷ []
change_otherwise under kept entry answer none live is =
    let whole : List ℕ → List Change = λ (a : List ℕ). record { number = next_number kept; entry = entry; answer = a } ∷ [] in
    as_left under kept entry none live
    ∙ ap (λ (b : Bool). cond b [] (whole (kept_answers under kept (after_name entry)))) (not_left under kept entry is.other)
    ∙ ap whole (sym is.answer_is)

-- one with its own is none
pub change_same : (under : Standing) (kept : List (List ℕ)) (entry : List ℕ) → note_in entry ≡ None → is_struck under.corrections (next_number kept) ≡ false → follows under kept entry → change_as (note_in entry) under kept entry ≡ []
change_same under kept entry none live may =
    let whole : List Change = record { number = next_number kept; entry = entry; answer = kept_answers under kept (after_name entry) } ∷ [] in
    as_left under kept entry none live
    ∙ ap (λ (b : Bool). cond b [] whole) (ap (λ (l : List (List ℕ)). is_left l entry) may ∙ (bytes_eq-Decides entry entry).1 refl)

-- nor is one that is struck
pub change_struck : (under : Standing) (kept : List (List ℕ)) (entry : List ℕ) → note_in entry ≡ None → is_struck under.corrections (next_number kept) ≡ true → change_as (note_in entry) under kept entry ≡ []
change_struck under kept entry none struck =
    ap (λ (f : Option Note). change_as f under kept entry) none
    ∙ ap (λ (b : Bool). cond b [] (cond (is_left (left_again under kept entry) entry) [] (record { number = next_number kept; entry = entry; answer = kept_answers under kept (after_name entry) } ∷ []))) struck
