-- A line with the name of a case, before other text.
use Rattle.std.specs.Prelude.{ℕ, ◌+◌, not, List, [], ◌∷◌, ◌++◌, Option, Some, None, codes, drop, length, nat_eq, take, if◌then◌else◌}
use Rattle.std.specs.List.{prefix_len, starts_with}
use Rattle.case_numbers.specs.Number.{NameView, case_read}

-- with what such a line begins
abbrev pub name_mark : List ℕ
name_mark = codes "%%case "

-- the line with a name, where there is one
abbrev pub name_line : Option NameView → List ℕ
name_line None = []
name_line (Some name) = name_mark ++ name.shown ++ 10 ∷ []

-- how many bytes come before the end of the first line
abbrev pub first_length : List ℕ → ℕ
first_length text = prefix_len (λ b. not (nat_eq b 10)) text

-- what comes after the mark, where a text begins with it
abbrev pub after_mark : List ℕ → Option (List ℕ)
after_mark text = if starts_with nat_eq text name_mark then Some (drop (length name_mark) text) else None

-- the name in the rest of such a line
abbrev pub name_at : Option (List ℕ) → Option NameView
name_at None = None
name_at (Some rest) = case_read (take (first_length rest) rest)

abbrev pub past_line : Option (List ℕ) → (text : List ℕ) → List ℕ
past_line None text = text
past_line (Some rest) text = drop (first_length rest + 1) rest

-- the name in the line before a text, and the text after that line
unfoldable pub name_before : List ℕ → Option NameView
name_before text = name_at (after_mark text)

unfoldable pub after_name : List ℕ → List ℕ
after_name text = past_line (after_mark text) text
