-- What the division of the input means: where a line `%%` is, and which is the first.
use Rattle.std.specs.Prelude.{◌≡◌, ◌⊎◌, ◌<◌, ⊤, ℕ, zero, suc, List, [], ◌∷◌, ◌++◌, Some, codes, drop, slice_get, take}
use Rattle.program_runs.specs.Division.{court_part, rows_part}

-- a line begins at this place
abbrev pub BeginsLine : List ℕ → ℕ → Type 0
BeginsLine input zero = ⊤
BeginsLine input (suc i) = slice_get input i ≡ Some 10

-- `%%`, ended by LF, by CR LF, or by the end of the input
abbrev pub IsDivider : List ℕ → List ℕ → Type 0
IsDivider divider rows = (divider ≡ codes "%%" ++ 10 ∷ []) ⊎ (divider ≡ codes "%%" ++ 13 ∷ 10 ∷ []) ⊎ ((divider ≡ codes "%%") × (rows ≡ []))

-- the bytes are that line and then these rows
pub record StartsWithDivider (bytes rows : List ℕ) : Type 0 where
  pub divider : List ℕ
  pub is_divider : IsDivider divider rows
  pub split : bytes ≡ divider ++ rows

-- a line `%%` is at this place of the input, and these rows come after it
pub record HasDivider (input : List ℕ) (i : ℕ) (rows : List ℕ) : Type 0 where
  pub begins : BeginsLine input i
  pub line : StartsWithDivider (drop i input) rows

-- the input is divided at the first such line
pub record IsDividedAtDivider (input : List ℕ) : Type 0 where
  pub place : ℕ
  pub stands : HasDivider input place (rows_part input)
  pub first : (k : ℕ) (rows : List ℕ) → k < place → HasDivider input k rows → ⊥
  pub court : court_part input ≡ take place input

-- the input has no such line, and all of it is the court's file
pub record HasNoDivider (input : List ℕ) : Type 0 where
  pub none : (k : ℕ) (rows : List ℕ) → HasDivider input k rows → ⊥
  pub court : court_part input ≡ input
  pub rows : rows_part input ≡ []

abbrev pub FirstDividerDivides : Type 0
FirstDividerDivides = (input : List ℕ) → IsDividedAtDivider input ⊎ HasNoDivider input
