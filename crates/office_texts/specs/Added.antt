-- What is added to a text.
use Rattle.std.specs.Prelude.{◌≡◌, ℕ, List, ◌++◌, String, string_bytes}

-- the text has these bytes after those that it had
abbrev pub AddsText : {Z : Type 0} → (old new : String Z) → List ℕ → Type 0
AddsText old new added = string_bytes new ≡ string_bytes old ++ added
