-- The first record of a text.
use Rattle.std.specs.Prelude.{◌≡◌, ℕ, List, ◌∷◌}
use Rattle.csv.specs.Reading.{default_config, records, strip_bom}

-- the first record of a text has these fields
pub record BeginsWith (bytes : List ℕ) (fields : List (List ℕ)) : Type 0 where
  pub later : List (List (List ℕ))
  pub is : records default_config (strip_bom bytes) ≡ fields ∷ later
