-- A line that no quote is in: its fields are what is between its commas.
use Rattle.std.specs.Prelude.{◌≡◌, ◌==◌, ◌||◌, if◌then◌else◌, ℕ, List, [], ◌∷◌, ◌++◌, Option, Some, None}
use Rattle.csv.specs.Machine.{next_record}
use Rattle.csv.specs.Reading.{default_config, strip_bom}
use Rattle.csv.specs.declared.parser.State.TheVariants as st

-- what is between the commas of a line, after these fields and these bytes of the next; none where a quote is in it
unfoldable pub cut : List (List ℕ) → List ℕ → List ℕ → Option (List (List ℕ))
cut fields field [] = Some (fields ++ (field ∷ []))
cut fields field (b ∷ rest) =
    if b == 34 then None
    else if b == 44 then cut (fields ++ (field ∷ [])) [] rest
    else if (b == 13) || (b == 10) then Some (fields ++ (field ∷ []))
    else cut fields (field ++ (b ∷ [])) rest

-- a text that begins with a field
abbrev pub BeginsAtField : List ℕ → Type 0
BeginsAtField bytes = next_record default_config st.StartRecord [] [] (strip_bom bytes) ≡ next_record default_config st.StartField [] [] bytes
