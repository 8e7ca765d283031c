-- When something happened.
use Rattle.std.specs.Prelude.{ℕ, ℤ}

-- a day, and a minute of it counted from midnight
pub record EventView : Type 0 where
  pub day : ℤ
  pub minute : ℕ
