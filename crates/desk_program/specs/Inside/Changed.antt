-- Changes to rows that are taken by their numbers, one row after another.
use Rattle.std.specs.Prelude.{ℕ, zero, suc, ◌+◌, ◌≤◌, List, [], ◌∷◌, ◌++◌, Option, Some, None, nat_eq, if◌then◌else◌}
use Rattle.desk_numbers.specs.Strikes.Words.{CorrectionsView, is_struck}
use Rattle.desk_entries.specs.Words.{Change}
use Rattle.desk_program.specs.Changed.{ChangedRowView, changed_row}

-- the first change, where it is that of the row
abbrev pub first_of : List Change → (number : ℕ) → Option Change
first_of [] number = None
first_of (c ∷ cs) number = if nat_eq c.number number then Some c else None

-- those after it
abbrev pub rest_of : List Change → (number : ℕ) → List Change
rest_of [] number = []
rest_of (c ∷ cs) number = if nat_eq c.number number then cs else c ∷ cs

-- the changed ones of `count` rows, of which the first has this number
unfoldable pub walked : CorrectionsView → (count number : ℕ) → (had has : List Change) → List ChangedRowView
walked corrections zero number had has = []
walked corrections (suc count) number had has =
    changed_row (is_struck corrections number) (first_of had number) (first_of has number) ++ walked corrections count (number + 1) (rest_of had number) (rest_of has number)

-- each change is of a later row than the one before it, and the first of this row or a later one
unfoldable pub AreInOrder : (number : ℕ) → List Change → Type 0
AreInOrder number [] = Unit {0}
AreInOrder number (c ∷ cs) = (number ≤ c.number) × AreInOrder (c.number + 1) cs
