-- The numbers of what rows start and enter, as they are decided one after another. The docket counts things by their places in
-- a case; a number stays with the row that gave it first.
use Rattle.std.specs.Prelude.{ℕ, List, [], ◌∷◌, ◌++◌, Option, Some, None, max, nat_eq, nat_le, if◌then◌else◌}
use Rattle.desk_numbers.specs.declared.given.Given.{Given}
use Rattle.desk_numbers.specs.declared.moved.Moved.{Moved}
use Rattle.desk_numbers.specs.Kept.{after_given, kept_of}
use Rattle.desk_numbers.specs.Moved.{after_moved}

-- by row, what it gave so far, and what has another number than its place
pub record NumbersView : Type 0 where
  pub given : List (Option Given)
  pub moved : List Moved

abbrev pub no_numbers : NumbersView
no_numbers = record { given = []; moved = [] }

-- the greatest number that is written
abbrev pub last_number : ℕ
last_number = 4_294_967_295

-- the number, or the place where it is greater than is written
abbrev pub fitted : (place number : ℕ) → ℕ
fitted place number = if nat_le number last_number then number else place

-- the least number after all that rows keep in a case, and after all there that isn't at its place; it isn't less than the place
abbrev pub next_for : List (Option Given) → List Moved → Given → ℕ
next_for kept moved at = max (max (after_given kept at.case at.counted) (after_moved moved at.case at.counted)) at.number

-- a new number for what is at a place
abbrev pub new_number : List (Option Given) → List Moved → Given → ℕ
new_number kept moved at = fitted at.number (next_for kept moved at)

-- the number that a row keeps, or a new one
abbrev pub own_or : Option Given → (new : ℕ) → ℕ
own_or None new = new
own_or (Some own) new = own.number

abbrev pub number_for : List (Option Given) → List Moved → (row : ℕ) → Given → ℕ
number_for kept moved row at = own_or (kept_of kept row) (new_number kept moved at)

-- with what is at a place, which has this number
abbrev pub with_number : NumbersView → Given → (number : ℕ) → NumbersView
with_number numbers at number = record {
  given = numbers.given ++ Some (record { case = at.case; counted = at.counted; number = number }) ∷ [];
  moved = if nat_eq at.number number then numbers.moved else numbers.moved ++ record { case = at.case; counted = at.counted; place = at.number; number = number } ∷ [];
}

-- after a row that gives nothing: it keeps the number that it gave before
abbrev pub passed : List (Option Given) → NumbersView → (row : ℕ) → NumbersView
passed kept numbers row = record { given = numbers.given ++ kept_of kept row ∷ []; moved = numbers.moved }

-- after the row of that number, counted from 1, of which this was given, with its place as the number
unfoldable pub numbers_after : List (Option Given) → NumbersView → (row : ℕ) → Option Given → NumbersView
numbers_after kept numbers row None = passed kept numbers row
numbers_after kept numbers row (Some at) = with_number numbers at (number_for kept numbers.moved row at)
