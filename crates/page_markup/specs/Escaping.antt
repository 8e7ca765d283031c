-- A text as it is written in a page, and how a reader of the page takes it back.
use Rattle.std.specs.Prelude.{◌≡◌, ◌≢◌, ℕ, zero, suc, ◌==◌, ◌<◌, nat_eq, List, [], ◌∷◌, codes, ⊤, if◌then◌else◌}
use Rattle.std.specs.List.{flat_map, starts_with}

-- A byte of a text. Five have a meaning in a page, and a character reference stands for each: `&` is 38, `<` is 60,
-- `>` is 62, `"` is 34 and `'` is 39 (the HTML standard, 13.1.4 and 13.5).
abbrev pub escaped_byte : (byte : ℕ) → List ℕ
escaped_byte byte =
    if byte == 38 then codes "&amp;"
    else if byte == 60 then codes "&lt;"
    else if byte == 62 then codes "&gt;"
    else if byte == 34 then codes "&quot;"
    else if byte == 39 then codes "&#39;"
    else byte ∷ []

-- the text, escaped
unfoldable pub escaped : (text : List ℕ) → List ℕ
escaped text = flat_map escaped_byte text

-- a character, and how many bytes of its reference come after the `&`
pub record Reference : Type 0 where
  pub character : ℕ
  pub length : ℕ

-- the reference that begins a text after an `&`; an `&` that begins none is a character by itself
abbrev pub reference_at : (text : List ℕ) → Reference
reference_at text =
    if starts_with nat_eq text (codes "amp;") then record { character = 38; length = 4 }
    else if starts_with nat_eq text (codes "lt;") then record { character = 60; length = 3 }
    else if starts_with nat_eq text (codes "gt;") then record { character = 62; length = 3 }
    else if starts_with nat_eq text (codes "quot;") then record { character = 34; length = 5 }
    else if starts_with nat_eq text (codes "#39;") then record { character = 39; length = 4 }
    else record { character = 38; length = 0 }

-- what is read after some bytes that belong to a reference
unfoldable pub read_after : (passed : ℕ) → List ℕ → List ℕ
read_after passed [] = []
read_after (suc passed) (byte ∷ bytes) = read_after passed bytes
read_after zero (byte ∷ bytes) =
    if byte == 38 then (reference_at bytes).character ∷ read_after (reference_at bytes).length bytes else byte ∷ read_after 0 bytes

-- the text that is read of what is written in a page
abbrev pub unescaped : (written : List ℕ) → List ℕ
unescaped written = read_after 0 written

-- a byte that begins no tag, ends none, and ends no value of an attribute
pub record IsPlain (byte : ℕ) : Type 0 where
  pub no_tag : byte ≢ 60
  pub no_end : byte ≢ 62
  pub no_quote : byte ≢ 34
  pub no_apostrophe : byte ≢ 39

-- no byte of the text has a meaning in a page, but an `&` that begins a reference
abbrev pub HasNoMarkup : (written : List ℕ) → Type 0
HasNoMarkup [] = ⊤
HasNoMarkup (byte ∷ bytes) = IsPlain byte × (byte ≡ 38 → 0 < (reference_at bytes).length) × HasNoMarkup bytes

-- reading an escaped text gives the text
abbrev pub EscapedReadsBack : Type 0
EscapedReadsBack = (text : List ℕ) → unescaped (escaped text) ≡ text

-- an escaped text has no tag and no quote of its own, and each `&` in it begins a reference
abbrev pub EscapedIsPlain : Type 0
EscapedIsPlain = (text : List ℕ) → HasNoMarkup (escaped text)
