-- The entries by which a row is struck or restored: a first line with a mark and the number of the row, and then a remark.
use Rattle.std.specs.Prelude.{ℕ, ◌+◌, not, List, Option, Some, None, drop, length, nat_eq, option_and_then, take, if◌then◌else◌}
use Rattle.std.specs.List.{prefix_len, starts_with}
use Rattle.row_forms.specs.Words.{number_of}

-- how many bytes come before the first of this value, what they are, and what comes after it
abbrev pub length_before : (byte : ℕ) → List ℕ → ℕ
length_before byte text = prefix_len (λ b. not (nat_eq b byte)) text

abbrev pub before : (byte : ℕ) → List ℕ → List ℕ
before byte text = take (length_before byte text) text

abbrev pub past : (byte : ℕ) → List ℕ → List ℕ
past byte text = drop (length_before byte text + 1) text

-- The row that the first line names after its mark. What comes after a blank isn't read here: it is what the entry says that rows
-- gave, and in entries of an earlier form what follows from their row.
unfoldable pub row_named : (line : List ℕ) → Option ℕ
row_named line = number_of (before 32 line)

-- what comes after a mark, where a text begins with it
abbrev pub after_mark : (mark text : List ℕ) → Option (List ℕ)
after_mark mark text = if starts_with nat_eq text mark then Some (drop (length mark) text) else None

-- the row that an entry names whose first line begins with this mark
unfoldable pub row_after : (mark entry : List ℕ) → Option ℕ
row_after mark entry = option_and_then (λ rest. row_named (before 10 rest)) (after_mark mark entry)

-- the remark: what comes after the first line
unfoldable pub remark_in : (entry : List ℕ) → List ℕ
remark_in entry = past 10 entry
