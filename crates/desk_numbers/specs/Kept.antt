-- The numbers that rows gave before the last correction, by row. They keep them.
use Rattle.std.specs.Prelude.{ℕ, ◌+◌, ◌-◌, List, [], ◌∷◌, Option, Some, None, max, slice_index_or, if◌then◌else◌}
use Rattle.docket_rows.specs.declared.command.Counted.{Counted}
use Rattle.desk_numbers.specs.declared.given.Given.{Given}
use Rattle.desk_numbers.specs.Given.{is_of}

-- the number that the row of that number, counted from 1, gave
abbrev pub kept_of : List (Option Given) → (row : ℕ) → Option Given
kept_of kept row = slice_index_or kept (row - 1) None

-- the least number after this one, if it is of the case and kind; 0 where it isn't
abbrev pub after_one : Option Given → (case : ℕ) → Counted → ℕ
after_one None case counted = 0
after_one (Some g) case counted = if is_of case counted g then g.number + 1 else 0

-- the least number after all that were given in a case to that kind; 0 where none was
unfoldable pub after_given : List (Option Given) → (case : ℕ) → Counted → ℕ
after_given [] case counted = 0
after_given (g ∷ kept) case counted = max (after_one g case counted) (after_given kept case counted)
