-- A walk along entries, which finds what stands after them and decides no row.
use Rattle.std.specs.Prelude.{◌≡◌, ◌<◌, ◌+◌, ℕ, true, List, length}
use Rattle.desk_numbers.specs.Strikes.Words.{all_before}
use Rattle.desk_entries.specs.declared.what_stands.Walk.{Walk}
use Rattle.desk_register.specs.Words.{SaysCourt, kept_in, next_number, standing_file, struck_in}

-- the walk is at the end of these entries
pub record IsWalked (walk : Walk) (kept : List (List ℕ)) : Type 0 where
  pub begun : 0 < length kept
  pub court : SaysCourt (standing_file kept) walk.court
  pub struck : walk.corrections.struck ≡ struck_in kept
  pub numbers : walk.kept.items ≡ kept_in kept
  pub rows : walk.rows + 1 ≡ next_number kept
  pub before : all_before walk.corrections (next_number kept) ≡ true
