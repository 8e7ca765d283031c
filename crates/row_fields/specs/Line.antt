-- A line as people and their programs write it, and its fields.
use Rattle.std.specs.Prelude.{ℕ, ◌+◌, ◌-◌, ◌==◌, ◌&&◌, ◌||◌, not, nat_eq, nat_le, nat_lt, Bool, false, List, [], ◌∷◌, ◌++◌, if◌then◌else◌}
use Rattle.std.specs.List.{starts_with}
use Rattle.std.specs.Str.{trim}

-- bytes begin with these
abbrev pub begins : List ℕ → List ℕ → Bool
begins rest mark = starts_with nat_eq rest mark

-- a curly quote: one that opens, one that closes, or one that opens below
abbrev pub is_quote : List ℕ → Bool
is_quote rest = (begins rest (226 ∷ 128 ∷ 156 ∷ []) || begins rest (226 ∷ 128 ∷ 157 ∷ [])) || begins rest (226 ∷ 128 ∷ 158 ∷ [])

-- a dash at which a line doesn't break, a short one, or a long one
abbrev pub is_dash : List ℕ → Bool
is_dash rest = (begins rest (226 ∷ 128 ∷ 145 ∷ []) || begins rest (226 ∷ 128 ∷ 147 ∷ [])) || begins rest (226 ∷ 128 ∷ 148 ∷ [])

-- a byte order mark, or a narrow blank at which a line doesn't break
abbrev pub is_blank : List ℕ → Bool
is_blank rest = begins rest (239 ∷ 187 ∷ 191 ∷ []) || begins rest (226 ∷ 128 ∷ 175 ∷ [])

-- a byte of ASCII, and a question mark for any other: no plain row has one
abbrev pub plain : ℕ → ℕ
plain b = if nat_lt b 128 then b else 63

-- how many more bytes a character has that begins with this one
abbrev pub more_of : ℕ → ℕ
more_of b = if nat_lt b 192 then 0 else if nat_lt b 224 then 1 else if nat_lt b 240 then 2 else 3

-- a character by itself
abbrev pub alone : List ℕ → ℕ × ℕ
alone [] = (32, 0)
alone (b ∷ rest) = (plain b, more_of b)

-- the plain character that is meant where bytes begin, and how many more bytes it takes
abbrev pub meant : List ℕ → ℕ × ℕ
meant rest =
    if is_quote rest then (34, 2)
    else if is_dash rest then (45, 2)
    else if is_blank rest then (32, 2)
    else if begins rest (194 ∷ 160 ∷ []) then (32, 1)
    else alone rest

-- A line as plain keys type it, of which this many more bytes are those of the character before: one byte for each character.
unfoldable pub typed_after : ℕ → List ℕ → List ℕ
typed_after more [] = []
typed_after more (b ∷ rest) =
    if nat_lt 0 more then typed_after (more - 1) rest
    else plain (meant (b ∷ rest)).0 ∷ typed_after (meant (b ∷ rest)).1 rest

abbrev pub typed : List ℕ → List ℕ
typed line = typed_after 0 line

-- a byte separates fields where it is the mark, outside of quotes
abbrev pub separates : (b mark : ℕ) → (quoted : Bool) → Bool
separates b mark quoted = (b == mark) && not quoted

-- how often a line has this byte outside of quotes
unfoldable pub count_outside : (mark : ℕ) → (quoted : Bool) → List ℕ → ℕ
count_outside mark quoted [] = 0
count_outside mark quoted (b ∷ rest) =
    if b == 34 then count_outside mark (not quoted) rest
    else if separates b mark quoted then count_outside mark quoted rest + 1
    else count_outside mark quoted rest

-- the byte that a line has most often: a comma where none is more often than it, and of the others a tab
abbrev pub most_of : (commas semicolons tabs : ℕ) → ℕ
most_of commas semicolons tabs =
    if nat_lt commas tabs && nat_le semicolons tabs then 9
    else if nat_lt commas semicolons then 59
    else 44

-- What separates the fields of a line: a comma, a semicolon or a tab, whichever it has most often outside of quotes.
abbrev pub separator_of : List ℕ → ℕ
separator_of line = most_of (count_outside 44 false line) (count_outside 59 false line) (count_outside 9 false line)

-- The fields of a line after these, and after the beginning of another. A quote is no part of a field: it begins or ends a
-- part of the line in which the mark is a character like others.
unfoldable pub fields_after : (mark : ℕ) → (quoted : Bool) → (fields : List (List ℕ)) → (field : List ℕ) → List ℕ → List (List ℕ)
fields_after mark quoted fields field [] = fields ++ trim field ∷ []
fields_after mark quoted fields field (b ∷ rest) =
    if b == 34 then fields_after mark (not quoted) fields field rest
    else if separates b mark quoted then fields_after mark quoted (fields ++ trim field ∷ []) [] rest
    else fields_after mark quoted fields (field ++ plain b ∷ []) rest

-- the fields of a line, without the blanks around them and without quotes
abbrev pub fields_in : (mark : ℕ) → List ℕ → List (List ℕ)
fields_in mark line = fields_after mark false [] [] line

-- a blank or a quote, before a field begins
abbrev pub is_padding : ℕ → Bool
is_padding b = (b == 32) || (b == 34)

-- Where a field begins in a line, counted from 0: after this many separating marks, and after blanks and quotes.
unfoldable pub place_after : (mark left : ℕ) → (quoted : Bool) → List ℕ → ℕ
place_after mark left quoted [] = 0
place_after mark left quoted (b ∷ rest) =
    if left == 0 then (if is_padding b then place_after mark left quoted rest + 1 else 0)
    else if b == 34 then place_after mark left (not quoted) rest + 1
    else if separates b mark quoted then place_after mark (left - 1) quoted rest + 1
    else place_after mark left quoted rest + 1

-- where the field of that number begins, both counted from 0
abbrev pub place_in : (mark number : ℕ) → List ℕ → ℕ
place_in mark number line = place_after mark number false line
