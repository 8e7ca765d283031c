-- What isn't at the place that its number says. All else that is counted in a case has its place as its number.
use Rattle.std.specs.Prelude.{ℕ, ◌+◌, ◌-◌, ◌&&◌, Bool, List, [], ◌∷◌, Option, Some, None, find, max, nat_eq, nat_lt, if◌then◌else◌}
use Rattle.std.specs.List.{list_any}
use Rattle.docket_rows.specs.declared.command.Counted.{Counted}
use Rattle.docket_rows.specs.Words.{are_alike}
use Rattle.desk_numbers.specs.declared.moved.Moved.{Moved}

-- it is of that case and kind
abbrev pub is_moved : (case : ℕ) → Counted → Moved → Bool
is_moved case counted m = nat_eq m.case case && are_alike m.counted counted

-- it is at that place
abbrev pub is_at : (case : ℕ) → Counted → (place : ℕ) → Moved → Bool
is_at case counted place m = is_moved case counted m && nat_eq m.place place

-- it has that number
abbrev pub has_number : (case : ℕ) → Counted → (number : ℕ) → Moved → Bool
has_number case counted number m = is_moved case counted m && nat_eq m.number number

-- the number of one that was found, and its place
abbrev pub number_of : Option Moved → (otherwise : ℕ) → ℕ
number_of None otherwise = otherwise
number_of (Some m) otherwise = m.number

abbrev pub place_of : Option Moved → (otherwise : ℕ) → ℕ
place_of None otherwise = otherwise
place_of (Some m) otherwise = m.place

-- A place apart for a number that nothing has any more: it is counted down from the last that 32 bits hold, so that nothing is there.
-- The place apart of such a place is that number again.
abbrev pub place_apart : ℕ → ℕ
place_apart number = 4_294_967_295 - number

abbrev pub is_apart : (place : ℕ) → Bool
is_apart place = nat_lt 2_147_483_647 place

-- the number of what is at a place in a case, counted from 1
unfoldable pub number_in : List Moved → (case : ℕ) → Counted → (place : ℕ) → ℕ
number_in moved case counted place = number_of (find (is_at case counted place) moved) place

-- The place of what has a number in a case, counted from 1. It is a place apart, where what is at the place of that number has
-- another one.
unfoldable pub place_in : List Moved → (case : ℕ) → Counted → (number : ℕ) → ℕ
place_in moved case counted number =
    place_of (find (has_number case counted number) moved) (if list_any (is_at case counted number) moved then place_apart number else number)

-- the least number after its own, if it is of the case and kind; 0 where it isn't
abbrev pub after_it : (case : ℕ) → Counted → Moved → ℕ
after_it case counted m = if is_moved case counted m then m.number + 1 else 0

-- the least number after all that these have in a case and kind; 0 where there is none
unfoldable pub after_moved : List Moved → (case : ℕ) → Counted → ℕ
after_moved [] case counted = 0
after_moved (m ∷ moved) case counted = max (after_it case counted m) (after_moved moved case counted)
