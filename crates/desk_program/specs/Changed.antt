-- The rows whose answers a correction changes: a strike, a restore, or another court's file.
use Rattle.std.specs.Prelude.{ℕ, Bool, List, [], ◌∷◌, Option, Some, None, find, length, nat_eq, if◌then◌else◌}
use Rattle.std.specs.List.{flat_map, range_with_len}
use Rattle.std.specs.Str.{bytes_eq}
use Rattle.desk_numbers.specs.Strikes.Words.{CorrectionsView, is_struck}
use Rattle.desk_register.specs.declared.standing.Standing.{Standing}
use Rattle.desk_entries.specs.Past.{answer_in}
use Rattle.desk_entries.specs.Words.{Change, changes_by, row_entries}

-- a row that would be answered otherwise than now: its number, its entry as it is kept, the answer that it has now where that isn't
-- the one that its entry keeps, and the answer that it would get
pub record ChangedRowView : Type 0 where
  pub number : ℕ
  pub entry : List ℕ
  pub had : Option (List ℕ)
  pub answer : List ℕ

-- the change to the row of that number, if there is one among these
abbrev pub change_of : List Change → (number : ℕ) → Option Change
change_of changes number = find (λ c. nat_eq c.number number) changes

-- A row with the change that it has now and the one that it would have: with none it is answered as its entry keeps. One that would be
-- struck isn't answered at all, and one that would be answered as it is now isn't changed.
abbrev pub changed_row : (struck : Bool) → (had has : Option Change) → List ChangedRowView
changed_row struck None None = []
changed_row struck None (Some has) = record { number = has.number; entry = has.entry; had = None; answer = has.answer } ∷ []
changed_row struck (Some had) None =
    if struck then [] else record { number = had.number; entry = had.entry; had = Some had.answer; answer = answer_in had.entry } ∷ []
changed_row struck (Some had) (Some has) =
    if bytes_eq had.answer has.answer then [] else record { number = has.number; entry = has.entry; had = Some had.answer; answer = has.answer } ∷ []

-- the row of that number, if it is changed
abbrev pub changed_at : CorrectionsView → (had has : List Change) → (number : ℕ) → List ChangedRowView
changed_at corrections had has number = changed_row (is_struck corrections number) (change_of had number) (change_of has number)

-- the rows of entries that are answered otherwise after a correction than now, in their order
unfoldable pub changes_between : (now after : Standing) → (entries : List (List ℕ)) → List ChangedRowView
changes_between now after entries =
    flat_map (changed_at after.corrections (changes_by now entries) (changes_by after entries)) (range_with_len 1 (length (row_entries entries)))
