-- The records that a reader of rows has left.
use Rattle.std.specs.Prelude.{◌≡◌, ◌+◌, ℕ, Bool, true, false, List, [], ◌∷◌, length, Some}
use Rattle.std.specs.List.{list_all}
use Rattle.std.specs.Option.{option_map_or}
use Rattle.std.specs.Str.{is_utf8}
use Rattle.std.specs.Borrow.{Bor}
use Rattle.csv.specs.Reading.{Ready, default_config, has_failed, is_flexible, reader_config, reader_state, reader_trim, records_from, source_of}
use Rattle.csv.specs.declared.parser.Config.{Config}
use Rattle.csv.specs.declared.parser.State.{State}
use Rattle.csv.specs.declared.error.ErrorKind.{ErrorKind}
use Rattle.csv.specs.declared.error.ErrorKind.TheVariants as kind
use Rattle.csv.specs.declared.reader.Reader.{Reader}
use Rattle.csv.specs.declared.reader.Trim.TheVariants as trim

-- every record of a text from a state on
abbrev pub all_records : Config → State → List ℕ → List (List (List ℕ))
all_records cfg s text = records_from cfg (length text + 2) s text

-- a reader over a slice that takes records of any number of fields, each as it is, and no header
pub record TakesAnyRow (r : Reader (Bor (List ℕ))) : Type 0 where
  pub whole : reader_trim r ≡ trim.None
  pub usual : reader_config r ≡ default_config
  pub any_length : is_flexible r ≡ true
  pub ready : Ready r
  pub sound : has_failed r ≡ false

-- the records that it has left
abbrev pub records_left : Reader (Bor (List ℕ)) → List (List (List ℕ))
records_left r = option_map_or (all_records default_config (reader_state r)) (source_of (λ s. Some s.now) r) []

-- the record was the next, and each of its fields is text
pub record TakesText (old new : Reader (Bor (List ℕ))) (fields : List (List ℕ)) : Type 0 where
  pub next : records_left old ≡ fields ∷ records_left new
  pub text : list_all is_utf8 fields ≡ true
  pub onward : TakesAnyRow new

-- the next record has a field that is no text
pub record MeetsNoText (old : Reader (Bor (List ℕ))) : Type 0 where
  pub fields : List (List ℕ)
  pub later : List (List (List ℕ))
  pub next : records_left old ≡ fields ∷ later
  pub no_text : list_all is_utf8 fields ≡ false

-- an error that says that a field is no text
abbrev pub tells_no_text : ErrorKind → Bool
tells_no_text (kind.Utf8 pos err) = true
tells_no_text (kind.Io err) = false
tells_no_text (kind.UnequalLengths pos expected len) = false
tells_no_text kind.OutOfMemory = false
tells_no_text (kind.Serialize why) = false
tells_no_text (kind.Deserialize pos err) = false
