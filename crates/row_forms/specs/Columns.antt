-- The columns of a row, read one after another.
use Rattle.std.specs.Prelude.{ℕ, ◌-◌, List, [], ℤ, Option, Result, Ok, Err, unwrap_or}
use Rattle.std.specs.Option.{ok_or}
use Rattle.csv.specs.Records.{field_at}
use Rattle.court_clock.specs.Words.{day_of_text}
use Rattle.row_forms.specs.declared.fault.RowCause.{RowCause}
use Rattle.row_forms.specs.declared.fault.RowCause.TheVariants.{BadField}
use Rattle.row_forms.specs.Fields.Numbers.{number_of}

infixl 10 ◌>>=◌
abbrev pub ◌>>=◌ : {A B E : Type 0} → Result A E → (A → Result B E) → Result B E
(Ok x) >>= more = more x
(Err e) >>= more = Err e

-- the field in a column, counted from 1
abbrev pub column : List (List ℕ) → ℕ → List ℕ
column fields n = unwrap_or (field_at fields (n - 1)) []

-- what a field of this column says, which must be written as its command has it
abbrev pub in_column : {A : Type 0} → ℕ → Option A → Result A RowCause
in_column n found = ok_or found (BadField n)

-- the number in a column
unfoldable pub number_in : List (List ℕ) → ℕ → Result ℕ RowCause
number_in fields n = in_column n (number_of (column fields n))

-- the day in a column
unfoldable pub day_in : List (List ℕ) → ℕ → Result ℤ RowCause
day_in fields n = in_column n (day_of_text (column fields n))
