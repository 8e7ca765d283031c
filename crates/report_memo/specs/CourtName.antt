-- The name of a court, which its file says in a comment.
use Rattle.std.specs.Prelude.{ℕ, ◌==◌, ◌||◌, not, Bool, List, codes, drop, find, length, nat_eq, take, Option, Some, None, option_and_then, if◌then◌else◌}
use Rattle.std.specs.List.{prefix_len, slice_split, starts_with}
use Rattle.std.specs.Str.{is_utf8}

-- how the line of a court's file begins that names the court, as `docket court write` writes it
abbrev pub naming_mark : List ℕ
naming_mark = codes "# The court's file of the "

-- the first line that begins so
abbrev pub naming_line : (file : List ℕ) → Option (List ℕ)
naming_line file = find (λ line. starts_with nat_eq line naming_mark) (slice_split (λ byte. byte == 10) file)

-- what comes after a mark in a line that begins with it
abbrev pub after_naming : (mark line : List ℕ) → Option (List ℕ)
after_naming mark line = if starts_with nat_eq line mark then Some (drop (length mark) line) else None

-- a byte of the name, which ends before a comma, before a full stop, or with the line
abbrev pub is_in_name : (byte : ℕ) → Bool
is_in_name byte = not (byte == 44 || byte == 46 || byte == 13)

-- how many bytes the name has with which a text begins
abbrev pub name_length : (text : List ℕ) → ℕ
name_length text = prefix_len is_in_name text

-- bytes that are text
abbrev pub if_text : (bytes : List ℕ) → Option (List ℕ)
if_text bytes = if is_utf8 bytes then Some bytes else None

-- the name with which the rest of such a line begins
abbrev pub name_at : Option (List ℕ) → Option (List ℕ)
name_at None = None
name_at (Some rest) = if_text (take (name_length rest) rest)

-- the name in a line
unfoldable pub name_in_line : (line : List ℕ) → Option (List ℕ)
name_in_line line = name_at (after_naming naming_mark line)

-- the name of the court, where its file has one: `United States District Court for the District of Arizona`
abbrev pub court_named : (file : List ℕ) → Option (List ℕ)
court_named file = option_and_then name_in_line (naming_line file)
