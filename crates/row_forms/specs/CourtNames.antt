-- The names that rows may have: those of a court's judges and rooms, with their numbers, and of periods.
use Rattle.std.specs.Prelude.{ℕ, Bool, true, false, List, [], ◌∷◌, length, Option, Some, None, unwrap_or}
use Rattle.court_file_text.specs.Words.{NamedTextView, name_index}
use Rattle.court_days.specs.Words.{CourtView}

-- the names of judges and of rooms, in the order of the court's file, those that it gives to periods, with their texts, whether a period
-- may be named so or by its section's code, and the short names of judges and rooms, which rows have as people write them
pub record CourtNames : Type 0 where
  pub judges : List (List ℕ)
  pub rooms : List (List ℕ)
  pub periods : List NamedTextView
  pub coded : Bool
  pub shorts : List NamedTextView

-- the names that rows of the desk may have
abbrev pub names_of : CourtView → CourtNames
names_of court = record { judges = court.judges; rooms = court.rooms; periods = court.periods.texts; coded = true; shorts = court.periods.shorts }

-- the same, where a period may be named so, or where it may not
abbrev pub names_if : (coded : Bool) → CourtNames → CourtNames
names_if coded names = record { judges = names.judges; rooms = names.rooms; periods = names.periods; coded = coded; shorts = names.shorts }

-- the names that rows of clerk_office may have
abbrev pub office_names : CourtNames → CourtNames
office_names names = names_if false names

-- The number of a name, counted from 0 in the order of the file. A name that the file doesn't have is the number past its
-- last, so that it is read and then refused.
unfoldable pub number_named : List (List ℕ) → List ℕ → ℕ
number_named names name = unwrap_or (name_index names name) (length names)

-- the number of the name that a field says, which may be empty: then there is none
unfoldable pub number_if_named : List (List ℕ) → List ℕ → Option ℕ
number_if_named names [] = None
number_if_named names (b ∷ name) = Some (number_named names (b ∷ name))
