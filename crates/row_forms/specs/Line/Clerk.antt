-- The clerk of one line, which may have faults.
use Rattle.std.specs.Prelude.{ℕ, List, [], ◌∷◌, Option, None, if◌then◌else◌}
use Rattle.std.specs.List.{list_all}
use Rattle.std.specs.Str.{is_utf8}
use Rattle.csv.specs.Reading.{default_config, records, strip_bom}
use Rattle.row_forms.specs.Words.{clerk_of, column}

-- the clerk of a record: its first field is read as that of a row is, where all fields are text
abbrev pub clerk_spelling : ℕ → List (List ℕ) → Option ℕ
clerk_spelling clerks fields = if list_all is_utf8 fields then clerk_of clerks (column fields 1) else None

-- the clerk of the first of these records
abbrev pub first_clerk : ℕ → List (List (List ℕ)) → Option ℕ
first_clerk clerks [] = None
first_clerk clerks (fields ∷ more) = clerk_spelling clerks fields

-- the clerk of the first record of these bytes
unfoldable pub clerk_read : ℕ → List ℕ → Option ℕ
clerk_read clerks bytes = first_clerk clerks (records default_config (strip_bom bytes))
