-- Fields of a table for other programs (CSV, RFC 4180): between two quotes, with each quote of the text twice. A quote is 34. Programs
-- for tables take a text that begins with `=`, `+`, `-`, `@`, with one of these as a full-width sign, or with a tab for a formula, so
-- such a text has an apostrophe before it.
use Rattle.std.specs.Prelude.{ℕ, ◌==◌, nat_eq, Bool, false, ◌||◌, List, [], ◌∷◌, ◌++◌, if◌then◌else◌}
use Rattle.std.specs.List.{flat_map, starts_with}

-- a byte by which a formula begins, in one program or another
abbrev pub is_sign : (byte : ℕ) → Bool
is_sign byte = (byte == 61 || byte == 43) || ((byte == 45 || byte == 64) || (byte == 9 || byte == 13))

-- a text begins with one
abbrev pub begins_sign : (text : List ℕ) → Bool
begins_sign [] = false
begins_sign (byte ∷ text) = is_sign byte

-- a text begins with the full-width sign (U+FF0B, U+FF0D, U+FF1D, U+FF20) whose last byte in UTF-8 is this
abbrev pub begins_wide : (text : List ℕ) → (last : ℕ) → Bool
begins_wide text last = starts_with nat_eq text (239 ∷ 188 ∷ last ∷ [])

abbrev pub begins_wide_sign : (text : List ℕ) → Bool
begins_wide_sign text = (begins_wide text 157 || begins_wide text 139) || (begins_wide text 141 || begins_wide text 160)

-- a program for tables takes the text for a formula
abbrev pub begins_formula : (text : List ℕ) → Bool
begins_formula text = begins_sign text || begins_wide_sign text

-- what comes before a text
abbrev pub guard_if : Bool → List ℕ
guard_if begins = if begins then 39 ∷ [] else []

abbrev pub guard : (text : List ℕ) → List ℕ
guard text = guard_if (begins_formula text)

-- a byte of a text, as it is written between quotes
abbrev pub quote_doubled : (byte : ℕ) → List ℕ
quote_doubled byte = if byte == 34 then 34 ∷ 34 ∷ [] else byte ∷ []

-- `"Doe v. Acme"`
unfoldable pub csv_field : (text : List ℕ) → List ℕ
csv_field text = 34 ∷ guard text ++ flat_map quote_doubled text ++ 34 ∷ []
