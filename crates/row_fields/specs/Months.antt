-- The names of months.
use Rattle.std.specs.Prelude.{ℕ, List, [], ◌∷◌, codes, Option, Some, None, if◌then◌else◌}
use Rattle.row_fields.specs.Choices.{is_one_of}

-- the number of the month with this name in English, whole or of three letters, all small
unfoldable pub month_named : List ℕ → Option (List ℕ)
month_named word =
    if is_one_of word (codes "jan" ∷ codes "january" ∷ []) then Some (codes "01")
    else if is_one_of word (codes "feb" ∷ codes "february" ∷ []) then Some (codes "02")
    else if is_one_of word (codes "mar" ∷ codes "march" ∷ []) then Some (codes "03")
    else if is_one_of word (codes "apr" ∷ codes "april" ∷ []) then Some (codes "04")
    else if is_one_of word (codes "may" ∷ []) then Some (codes "05")
    else if is_one_of word (codes "jun" ∷ codes "june" ∷ []) then Some (codes "06")
    else if is_one_of word (codes "jul" ∷ codes "july" ∷ []) then Some (codes "07")
    else if is_one_of word (codes "aug" ∷ codes "august" ∷ []) then Some (codes "08")
    else if is_one_of word (codes "sep" ∷ codes "sept" ∷ codes "september" ∷ []) then Some (codes "09")
    else if is_one_of word (codes "oct" ∷ codes "october" ∷ []) then Some (codes "10")
    else if is_one_of word (codes "nov" ∷ codes "november" ∷ []) then Some (codes "11")
    else if is_one_of word (codes "dec" ∷ codes "december" ∷ []) then Some (codes "12")
    else None
