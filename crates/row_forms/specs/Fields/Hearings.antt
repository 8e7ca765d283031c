-- Who hears a motion, and for how long.
use Rattle.std.specs.Prelude.{ℕ, ◌*◌, List, length, map, nat_le, Option, Some, None, option_map, if◌then◌else◌}
use Rattle.std.specs.List.{slice_split}
use Rattle.std.specs.Option.{option_or}
use Rattle.row_forms.specs.CourtNames.{number_named}
use Rattle.row_forms.specs.Fields.Cut.{is_byte}
use Rattle.row_forms.specs.Fields.Numbers.{count_of, number_of}

-- the names that `+` joins
abbrev pub joined_names : List ℕ → List (List ℕ)
joined_names field = slice_split (is_byte 43) field

-- the judges of a hearing, one to three, by their numbers among these names
unfoldable pub panel_named : List (List ℕ) → List ℕ → Option (List ℕ)
panel_named names field =
    if nat_le (length (joined_names field)) 3 then Some (map (number_named names) (joined_names field)) else None

-- how many slots of 15 minutes: a number of them followed by `q`, or else a number of half hours
unfoldable pub slots_of : List ℕ → Option ℕ
slots_of text = option_or (count_of 113 text) (option_map (λ n. 2 * n) (number_of text))
