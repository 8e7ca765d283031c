-- The numbers that a correction says: what rows gave since the correction before it. They keep them from then on.
use Rattle.std.specs.Prelude.{◌≡◌, ◌≤◌, ℕ, ◌+◌, ◌-◌, ◌&&◌, Bool, false, List, [], ◌∷◌, ◌++◌, Option, Some, None, length, nat_eq, replicate, slice_set, if◌then◌else◌}
use Rattle.docket_rows.specs.Words.{are_alike}
use Rattle.desk_numbers.specs.declared.given.Given.{Given}
use Rattle.desk_numbers.specs.declared.said.Said.{Said}
use Rattle.desk_numbers.specs.Kept.{kept_of}

-- a row keeps that number
abbrev pub keeps : (own : Option Given) → Given → Bool
keeps None given = false
keeps (Some own) given = nat_eq own.case given.case && are_alike own.counted given.counted && nat_eq own.number given.number

-- what is to be said of a row that keeps the one and gave the other: nothing where it gave none, or keeps that
abbrev pub said_of : (own given : Option Given) → (row : ℕ) → List Said
said_of own None row = []
said_of own (Some given) row = if keeps own given then [] else record { row = row; given = given } ∷ []

-- What is to be said of rows that keep these numbers and gave those, of which the first is of the row of that number: what they gave and
-- don't keep yet.
unfoldable pub unsaid : (kept given : List (Option Given)) → (row : ℕ) → List Said
unsaid kept [] row = []
unsaid kept (g ∷ given) row = said_of (kept_of kept row) g row ++ unsaid kept given (row + 1)

-- with none for each row after those that keep some, up to that many rows
abbrev pub extended : List (Option Given) → (rows : ℕ) → List (Option Given)
extended kept rows = kept ++ replicate (rows - length kept) None

-- with what is said of one row
abbrev pub with_said : List (Option Given) → Said → List (Option Given)
with_said kept said = slice_set kept (said.row - 1) (Some said.given)

-- with all that is said
unfoldable pub with_all : List (Option Given) → List Said → List (Option Given)
with_all kept [] = kept
with_all kept (said ∷ more) = with_all (with_said kept said) more

-- what rows keep after a correction that says this, where there are that many rows before it
unfoldable pub kept_with : List (Option Given) → (rows : ℕ) → List Said → List (Option Given)
kept_with kept rows said = with_all (extended kept rows) said

-- each row that keeps a number gave one
abbrev pub AllGave : (kept given : List (Option Given)) → Type 0
AllGave kept given = (row : ℕ) (own : Given) → kept_of kept row ≡ Some own → (kept_of given row ≡ None → ⊥)

-- Where a correction says what rows gave and don't keep yet, they keep after it what they gave.
abbrev pub WhatIsSaidIsKept : Type 0
WhatIsSaidIsKept = (kept given : List (Option Given)) → length kept ≤ length given → AllGave kept given → kept_with kept (length given) (unsaid kept given 1) ≡ given
