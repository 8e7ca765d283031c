-- The rows that would be answered otherwise under another court's file, or with other rows struck.
use Rattle.std.specs.Prelude.{◌≡◌, ℕ, Bool, false, List, [], ◌∷◌, Option, Some, None, if◌then◌else◌}
use Rattle.std.specs.Str.{bytes_eq}
use Rattle.case_numbers.specs.Words.{after_name}
use Rattle.desk_numbers.specs.Strikes.Words.{is_struck}
use Rattle.desk_register.specs.declared.differences.Difference.{Difference}
use Rattle.desk_register.specs.declared.standing.Standing.{Standing}
use Rattle.desk_register.specs.Entries.{Note, next_number}
use Rattle.desk_register.specs.Rows.{follows, kept_answers, left_again}

-- a row that would be answered otherwise: its number, its entry as it is kept, and the answer that it would get
pub record Change : Type 0 where
  pub number : ℕ
  pub entry : List ℕ
  pub answer : List ℕ

abbrev pub change_in : Difference → Change
change_in difference = record { number = difference.number; entry = difference.entry.items; answer = difference.answer.items }

-- the entry is what was left
abbrev pub is_left : List (List ℕ) → (entry : List ℕ) → Bool
is_left [] entry = false
is_left (made ∷ more) entry = bytes_eq made entry

-- the change to an entry after these: none to one that is no row, none to a row that is struck, and none to one that is answered
-- the same
abbrev pub change_as : Option Note → Standing → (kept : List (List ℕ)) → (entry : List ℕ) → List Change
change_as (Some note) under kept entry = []
change_as None under kept entry =
    if is_struck under.corrections (next_number kept) then []
    else if is_left (left_again under kept entry) entry then []
    else record { number = next_number kept; entry = entry; answer = kept_answers under kept (after_name entry) } ∷ []

-- an entry can't follow others under what stands, since its row gets this answer
pub record IsOtherwise (under : Standing) (kept : List (List ℕ)) (entry answer : List ℕ) : Type 0 where
  pub other : follows under kept entry → ⊥
  pub answer_is : answer ≡ kept_answers under kept (after_name entry)
