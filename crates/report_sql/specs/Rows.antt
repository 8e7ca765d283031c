-- The statements that put rows into tables.
use Rattle.std.specs.Prelude.{◌≡◌, ℕ, ◌+◌, Bool, true, false, List, [], ◌∷◌, ◌++◌, Option, Some, None, codes}
use Rattle.std.specs.Fmt.{decimal}
use Rattle.std.specs.List.{flat_map}
use Rattle.report_sql.specs.Literals.{quoted}

-- a value of a row
pub data SqlValue : Type 0 where
  null : SqlValue
  number : ℕ → SqlValue
  truth : Bool → SqlValue
  text : List ℕ → SqlValue

abbrev pub value_text : SqlValue → List ℕ
value_text null = codes "NULL"
value_text (number n) = decimal n
value_text (truth true) = codes "TRUE"
value_text (truth false) = codes "FALSE"
value_text (text t) = quoted t

-- a value after another
unfoldable pub next_value : SqlValue → List ℕ
next_value v = codes ", " ++ value_text v

unfoldable pub into_words : List ℕ
into_words = codes "INSERT INTO "

unfoldable pub values_words : List ℕ
values_words = codes " VALUES ("

-- how the statement of a row begins, with the first value of the row, which is a number
unfoldable pub row_front : (table : List ℕ) → (first : ℕ) → List ℕ
row_front table first = into_words ++ table ++ values_words ++ decimal first

unfoldable pub row_end : List ℕ
row_end = codes ");\n"

-- `INSERT INTO cases VALUES (1, '2025-08-01');`: the row with these values, the first of which is a number
abbrev pub row_of : (table : List ℕ) → (first : ℕ) → List SqlValue → List ℕ
row_of table first values = row_front table first ++ flat_map next_value values ++ row_end

-- the value of what there is, and NULL where there is nothing
abbrev pub or_null : {A : Type 0} → (A → SqlValue) → Option A → SqlValue
or_null of (Some x) = of x
or_null of None = null

-- after what was written, these values were
abbrev pub AddsValues : (old new : List ℕ) → List SqlValue → Type 0
AddsValues old new values = new ≡ old ++ flat_map next_value values

-- what is written of each item, with its number, where the first has that number
unfoldable pub numbered : {A : Type 0} → (of : ℕ → A → List ℕ) → (first : ℕ) → List A → List ℕ
numbered of first [] = []
numbered of first (x ∷ xs) = of first x ++ numbered of (first + 1) xs
