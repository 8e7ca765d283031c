-- Who enters what a session keeps, and when.
use Rattle.std.specs.Prelude.{ℕ, List}
use Rattle.desk_journal.specs.Words.{AddsStamps, StampView}

-- A journal has these stamps afterwards, where it had those before: those that were added are of this account, and times never go back.
abbrev pub IsStampedOn : (account : List ℕ) → (Has : List StampView → Type 0) → (before : List StampView) → Type 0
IsStampedOn account Has before = (after : List StampView) × AddsStamps account before after × Has after
