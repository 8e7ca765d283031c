-- The rows of a line, one after another, and what speaks against them.
use Rattle.std.specs.Borrow.{Bor}
use Rattle.std.proofs.Common.{◌≡◌, ◌∙◌, ◌+◌, ◌<◌, ℕ, suc, true, false, List, [], ◌∷◌, ◌++◌, Option, Result, Ok, Err, length, map, take, refl, sym, ap, append_assoc, append-nil}
use Rattle.std.specs.Prelude.{IfOk, get_or}
use Rattle.std.specs.List.{flat_map}
use Rattle.std.specs.Vec.{vec_items}
use Rattle.std.specs.declared.vec.Vec.{Vec}
use Rattle.std.proofs.lemmas.Grind.{flat_map-append}
use Rattle.std.proofs.lemmas.Iterator.{IsCollectResult, YieldsList, items_from_drains}
use Rattle.std.proofs.lemmas.List.{map-append, take_more}
use Rattle.row_forms.specs.declared.fault.RowCause.{RowCause}
use Rattle.row_forms.specs.declared.fault.RowCause.TheVariants.{BadClerk, BadField, NotText, TooManyRows, UnknownCommand, WrongCount}
use Rattle.row_forms.specs.declared.line.line.Line.{Line}
use Rattle.row_forms.specs.declared.line.line.Line.TheVariants as says
use Rattle.desk_session.specs.Words.{left_by}
use Rattle.desk_session.specs.declared.outcome.Outcome.{Outcome}
use Rattle.desk_session.specs.declared.outcome.Outcome.TheVariants.{Blank, Fault, Held, Refused, Taken}
use Rattle.desk_register.specs.Words.{leaves, outcome}
use Rattle.desk_register.specs.declared.standing.Standing.{Standing}
use Rattle.desk_warnings.specs.declared.register.HeldBack.{HeldBack}
use Rattle.desk_warnings.specs.Inside.Rows.{row_texts}
use Rattle.desk_warnings.specs.Rows.{against_row, against_said, came_after, came_of_rows, either_came, labels_as, labels_new, name_at, said_at, says_new}

-- what an iterator gives, seen by a view, where it is collected
pub rows_collected : {S A B Z E : Type 0} {steps : S → Option A → S → Type 0} {v : A → B} {s : S} {all : List B} (r : Result (Vec A Z) E)
    → IsCollectResult steps s r → YieldsList steps v s all → IfOk r (λ w. map v (vec_items w) ≡ all)
rows_collected {v = v} (Ok w) d e = ap (map v) d.2.0 ∙ items_from_drains d.0 d.1 e
rows_collected (Err x) d e = tt

-- the rows behind references are as many
pub as_many : (rows : List (Bor (List ℕ))) → length rows ≡ length (row_texts rows)
as_many [] = refl
as_many (row ∷ rows) = ap (λ (n : ℕ). suc n) (as_many rows)

-- the rows so far, and one more
pub rows_more : (rows : List (Bor (List ℕ))) (i : ℕ) (row : Bor (List ℕ)) → i < length rows → row ≡ get_or rows i row → row_texts (take (i + 1) rows) ≡ row_texts (take i rows) ++ row.now ∷ []
rows_more rows i row there at =
    ap row_texts (take_more rows i row there)
    ∙ map-append (λ (r : Bor (List ℕ)). r.now) (take i rows) (get_or rows i row ∷ [])
    ∙ ap (λ (r : Bor (List ℕ)). row_texts (take i rows) ++ r.now ∷ []) (sym at)

-- what is said of each of them, and of one more
pub against_more : (said : List ℕ → List ℕ) (rows : List (Bor (List ℕ))) (i : ℕ) (row : Bor (List ℕ)) → i < length rows → row ≡ get_or rows i row
    → flat_map said (row_texts (take (i + 1) rows)) ≡ flat_map said (row_texts (take i rows)) ++ said row.now
against_more said rows i row there at =
    ap (flat_map said) (rows_more rows i row there at)
    ∙ flat_map-append said (row_texts (take i rows)) (row.now ∷ [])
    ∙ ap (λ (l : List ℕ). flat_map said (row_texts (take i rows)) ++ l) (append-nil (said row.now))

-- the fields of a row count only where one isn't what it should be
labels_fault : (cause : RowCause) (fields all : List (List ℕ)) → ((column : ℕ) → says.Fault cause ≡ says.Fault (BadField column) → fields ≡ all) → labels_as fields (says.Fault cause) ≡ labels_as all (says.Fault cause)
labels_fault (BadField column) fields all is = ap says_new (is column refl)
labels_fault BadClerk fields all is = refl
labels_fault UnknownCommand fields all is = refl
labels_fault WrongCount fields all is = refl
labels_fault NotText fields all is = refl
labels_fault TooManyRows fields all is = refl

pub labels_same : (said : Line) (fields all : List (List ℕ)) → ((column : ℕ) → said ≡ says.Fault (BadField column) → fields ≡ all) → labels_as fields said ≡ labels_as all said
labels_same says.Blank fields all is = refl
labels_same (says.Fault cause) fields all is = labels_fault cause fields all is
labels_same (says.Row row) fields all is = refl

-- a row that is passed over, and one that isn't
module _ (under : Standing) (held : HeldBack) (kept : List (List ℕ)) (row : List ℕ) where
  pub against_passed : labels_new under row ≡ true → [] ≡ against_row under held kept row
  unfolding against_row
  against_passed is = rw is refl

  pub against_plain : labels_new under row ≡ false → against_said under held kept (name_at under kept row) (said_at under kept row) ≡ against_row under held kept row
  unfolding against_row
  against_plain is = rw is refl

-- what comes of rows, and of one more
pub came_more : (under : Standing) (first : Outcome) (kept some : List (List ℕ)) (row : List ℕ)
    → came_after under first kept (some ++ row ∷ []) ≡ either_came (came_after under first kept some) (outcome under (kept ++ left_by (leaves under) kept some) row)
unfolding came_after left_by
came_more under first kept [] row = ap (λ (k : List (List ℕ)). either_came first (outcome under k row)) (sym (append-nil kept))
came_more under first kept (other ∷ some) row =
    came_more under (either_came first (outcome under kept other)) (kept ++ leaves under kept other) some row
    ∙ ap (λ (k : List (List ℕ)). either_came (came_after under (either_came first (outcome under kept other)) (kept ++ leaves under kept other) some) (outcome under k row))
    (append_assoc kept (leaves under kept other) (left_by (leaves under) (kept ++ leaves under kept other) some))

-- what comes of one row is what comes of it alone
blank_or : (came : Outcome) → either_came Blank came ≡ came
blank_or Blank = refl
blank_or Fault = refl
blank_or Refused = refl
blank_or Held = refl
blank_or Taken = refl

pub one_came : (under : Standing) (kept : List (List ℕ)) (row : List ℕ) → came_of_rows under kept (row ∷ []) ≡ outcome under kept row
unfolding came_after
one_came under kept row = blank_or (outcome under kept row)

-- no row came yet
pub none_came : (under : Standing) (kept : List (List ℕ)) → came_of_rows under kept [] ≡ Blank
unfolding came_after
none_came under kept = refl
