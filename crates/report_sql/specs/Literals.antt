-- Texts as SQL writes them: between two quotes, with each quote of the text twice (ISO 9075-2, 5.3). A quote is 39.
use Rattle.std.specs.Prelude.{◌≡◌, ◌≢◌, ℕ, ◌==◌, Bool, true, false, List, [], ◌∷◌, ◌++◌, Option, Some, None, option_map, ⊤, if◌then◌else◌}
use Rattle.std.specs.List.{flat_map}

-- a byte of a text, as it is written between quotes
abbrev pub doubled : (byte : ℕ) → List ℕ
doubled byte = if byte == 39 then 39 ∷ 39 ∷ [] else byte ∷ []

-- the literal of a text
unfoldable pub quoted : (text : List ℕ) → List ℕ
quoted text = 39 ∷ flat_map doubled text ++ 39 ∷ []

-- a text that was read, and what comes after its literal
pub record Taken : Type 0 where
  pub text : List ℕ
  pub rest : List ℕ

abbrev pub with_byte : (byte : ℕ) → Taken → Taken
with_byte byte taken = record taken { text = byte ∷ taken.text }

-- How SQL reads on inside a literal, where the byte before was a quote or not: two quotes are one of the text, and one quote
-- that no other follows ends the literal. A literal that isn't ended is none.
unfoldable pub taken_after : (quote : Bool) → List ℕ → Option Taken
taken_after false [] = None
taken_after true [] = Some (record { text = []; rest = [] })
taken_after false (byte ∷ bytes) =
    if byte == 39 then taken_after true bytes else option_map (with_byte byte) (taken_after false bytes)
taken_after true (byte ∷ bytes) =
    if byte == 39 then option_map (with_byte 39) (taken_after false bytes) else Some (record { text = []; rest = byte ∷ bytes })

-- the text that is read where a literal begins
abbrev pub taken_from : List ℕ → Option Taken
taken_from [] = None
taken_from (byte ∷ bytes) = if byte == 39 then taken_after false bytes else None

-- what comes after a literal begins with no quote
abbrev pub HasNoQuoteFirst : List ℕ → Type 0
HasNoQuoteFirst [] = ⊤
HasNoQuoteFirst (byte ∷ bytes) = byte ≢ 39

-- what is written is the literal of the text: where it is read, just the text is taken, and nothing of what comes after it
abbrev pub IsLiteralOf : (text written : List ℕ) → Type 0
IsLiteralOf text written = (rest : List ℕ) → HasNoQuoteFirst rest → taken_from (written ++ rest) ≡ Some (record { text = text; rest = rest })

-- each text that is quoted is read back, whatever bytes it has
abbrev pub QuotedReadsBack : Type 0
QuotedReadsBack = (text : List ℕ) → IsLiteralOf text (quoted text)
