-- What these definitions come to.
use Rattle.std.specs.Prelude.{◌≡◌, ◌<◌, ◌≤◌, ⊤, ℕ, true, false, List, [], ◌∷◌, ◌++◌, Option, Some, None, All}
use Rattle.std.specs.List.{list_any}
use Rattle.row_forms.specs.declared.row.Work.{Work}
use Rattle.office_texts.specs.declared.run.reply.Reply.{Reply}
use Rattle.docket_rows.specs.declared.command.Counted.{Counted}
use Rattle.desk_numbers.specs.declared.given.Given.{Given}
use Rattle.desk_numbers.specs.declared.moved.Moved.{Moved}
use Rattle.desk_numbers.specs.Given.{is_of}
use Rattle.desk_numbers.specs.Kept.{kept_of}
use Rattle.desk_numbers.specs.Moved.{has_number, is_apart, is_at, is_moved, number_in, place_apart, place_in}
use Rattle.desk_numbers.specs.Numbered.{numbered, placed}
use Rattle.desk_numbers.specs.Numbers.{NumbersView, last_number, next_for, number_for, numbers_after}

-- A row keeps the number that it gave.
abbrev pub ARowKeepsItsNumber : Type 0
ARowKeepsItsNumber = (kept : List (Option Given)) (moved : List Moved) (row : ℕ) (own at : Given) → kept_of kept row ≡ Some own → number_for kept moved row at ≡ own.number

-- it comes after the one that a row keeps, where that is of its case and kind
abbrev pub IsAfterKept : (at : Given) → (number : ℕ) → Option Given → Type 0
IsAfterKept at number None = ⊤
IsAfterKept at number (Some own) = is_of at.case at.counted own ≡ true → own.number < number

-- it comes after the one of what isn't at its place, where that is of its case and kind
abbrev pub IsAfterMoved : (at : Given) → (number : ℕ) → Moved → Type 0
IsAfterMoved at number m = is_moved at.case at.counted m ≡ true → m.number < number

-- A number is given once, also where its row is struck or refused since: a new one comes after all that rows keep in the case,
-- and after all there that isn't at its place; and it isn't less than its own place. The condition is that numbers have room.
abbrev pub ANumberIsGivenOnce : Type 0
ANumberIsGivenOnce = (kept : List (Option Given)) (moved : List Moved) (row : ℕ) (at : Given) → kept_of kept row ≡ None → next_for kept moved at ≤ last_number
    → (at.number ≤ number_for kept moved row at) × All (IsAfterKept at (number_for kept moved row at)) kept × All (IsAfterMoved at (number_for kept moved row at)) moved

-- What isn't at its place is found by its number, and its number by its place, where none before it has the same.
abbrev pub NumberAndPlaceGoTogether : Type 0
NumberAndPlaceGoTogether = (front back : List Moved) (m : Moved) → list_any (has_number m.case m.counted m.number) front ≡ false → list_any (is_at m.case m.counted m.place) front ≡ false
    → (place_in (front ++ m ∷ back) m.case m.counted m.number ≡ m.place) × (number_in (front ++ m ∷ back) m.case m.counted m.place ≡ m.number)

-- All else has its place as its number, and a number that nothing has any more has a place apart.
abbrev pub OthersAreAtTheirPlaces : Type 0
OthersAreAtTheirPlaces = (moved : List Moved) (case : ℕ) (counted : Counted) (n : ℕ)
    → (list_any (is_at case counted n) moved ≡ false → number_in moved case counted n ≡ n)
    × (list_any (has_number case counted n) moved ≡ false → list_any (is_at case counted n) moved ≡ false → place_in moved case counted n ≡ n)
    × (list_any (has_number case counted n) moved ≡ false → list_any (is_at case counted n) moved ≡ true → place_in moved case counted n ≡ place_apart n)

-- A place apart is no other place, and tells its number, so that an event of what is gone keeps its name.
abbrev pub APlaceApartTellsItsNumber : Type 0
APlaceApartTellsItsNumber = (n : ℕ) → n ≤ 2_147_483_647 → (is_apart (place_apart n) ≡ true) × (place_apart (place_apart n) ≡ n)

-- Before the first correction no row keeps a number, and all is at its place.
abbrev pub NothingMovesAtFirst : Type 0
NothingMovesAtFirst = (numbers : NumbersView) (row : ℕ) (at : Option Given) → numbers.moved ≡ [] → (numbers_after [] numbers row at).moved ≡ []

-- Where all is at its place, what rows ask for and what they are answered stays as it is.
abbrev pub WithNoneMovedNothingChanges : Type 0
WithNoneMovedNothingChanges = (asked : Work) (reply : Reply) → (placed [] asked ≡ asked) × (numbered [] asked reply ≡ reply)
