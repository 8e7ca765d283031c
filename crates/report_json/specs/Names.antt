-- Names of judges and rooms.
use Rattle.std.specs.Prelude.{ℕ, List, length, map, slice_get}
use Rattle.std.specs.List.{range_with_len}
use Rattle.json.specs.Json.{Json, string}
use Rattle.court_days.specs.Words.{CourtView}
use Rattle.report_json.specs.Values.{array_of, or_null}

-- the name of that number; a number that the court hasn't, has no name
abbrev pub name_value : (names : List (List ℕ)) → (number : ℕ) → Json
name_value names number = or_null string (slice_get names number)

-- those of a count of numbers, from a first one on
unfoldable pub names_from : (names : List (List ℕ)) → (first count : ℕ) → List Json
names_from names first count = map (name_value names) (range_with_len first count)

-- the names of all judges, in the order of the court's file
abbrev pub judges_value : CourtView → Json
judges_value court = array_of (names_from court.judges 0 (length court.judges))
