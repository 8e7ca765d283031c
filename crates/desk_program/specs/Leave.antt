-- The rows that a correction changes for which it asks for leave.
use Rattle.std.specs.Prelude.{ℕ, ◌&&◌, Bool, not, List, [], ◌∷◌, if◌then◌else◌}
use Rattle.std.specs.List.{flat_map}
use Rattle.desk_numbers.specs.Strikes.Words.{CorrectionsView, is_struck}
use Rattle.desk_register.specs.declared.standing.Standing.{Standing}
use Rattle.desk_program.specs.Changed.{ChangedRowView, changes_between}
use Rattle.desk_program.specs.ChangedText.{is_done}

-- the row is struck before the correction and would be refused after it, so it isn't done before or after
abbrev pub stays_undone : (before : CorrectionsView) → ChangedRowView → Bool
stays_undone before row = is_struck before row.number && not (is_done row.number row.answer)

-- the number of a row, unless it stays undone
abbrev pub if_asking : (before : CorrectionsView) → ChangedRowView → List ℕ
if_asking before row = if stays_undone before row then [] else row.number ∷ []

-- the numbers of the rows for which leave is asked
abbrev pub asking_of : (before : CorrectionsView) → List ChangedRowView → List ℕ
asking_of before rows = flat_map (if_asking before) rows

-- of those that are answered otherwise after a correction than now
abbrev pub asking_between : (now after : Standing) → (entries : List (List ℕ)) → List ℕ
asking_between now after entries = asking_of now.corrections (changes_between now after entries)
