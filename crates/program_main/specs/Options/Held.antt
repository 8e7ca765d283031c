-- The numbers that `clap`'s matches of the words hold.
use Rattle.std.specs.Prelude.{◌≡◌, ℕ, false, List, Option, option_map, codes}
use Rattle.std.specs.Str.Parse.{digits_value, without_leading_plus}
use Rattle.clap.specs.Words.{Row, Text, built, matches_of, one_of}
use Rattle.clap.specs.Walk.{has_row, nothing_held, settled, walk}
use Rattle.clap.specs.Simple.{argument_words, names_of}
use Rattle.program_main.specs.Options.CommandLine.{command_line}

-- the number that decimal digits write, with or without a `+` before them
abbrev pub number_written : Text → ℕ
number_written text = digits_value 10 (without_leading_plus text)

-- the number that the matches of the words hold under a name
abbrev pub number_held : Text → List Text → Option ℕ
number_held name words = option_map number_written (one_of name (matches_of command_line words))

-- what the words themselves name, before defaults
abbrev pub rows_by_words : List Text → List Row
rows_by_words words =
    let rules = (built command_line).top.rules in
    let end = walk rules (names_of (built command_line)) nothing_held (argument_words command_line words) in
    (settled rules end.held).rows

-- what the words don't name is 1 clerk, and a journal of 100,000 entries
abbrev pub DefaultsHold : List Text → ℕ → ℕ → Type 0
DefaultsHold words clerks journal =
    (has_row (codes "clerks") (rows_by_words words) ≡ false → clerks ≡ 1)
    × (has_row (codes "journal") (rows_by_words words) ≡ false → journal ≡ 100000)
