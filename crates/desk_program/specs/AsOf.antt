-- The entries that had come by a moment.
use Rattle.std.specs.Prelude.{◌≡◌, ◌≤◌, ◌<◌, ℕ, List, [], ◌∷◌, ◌++◌, All, drop, length, take}
use Rattle.desk_journal.specs.Words.{StampView}
use Rattle.desk_entries.specs.Words.{row_entries}
use Rattle.desk_program.specs.declared.as_of.Moment.{Moment}
use Rattle.desk_program.specs.declared.as_of.Moment.TheVariants.{Row, Second}

-- These entries, with these stamps, had all come by that moment: before each after the first there are fewer rows than the number says,
-- so that neither a row nor a correction comes after the row of that number; or each after the first is of that second or an earlier
-- one. The first, a court's file, always counts.
abbrev pub HadCome : Moment → (entries : List (List ℕ)) → (stamps : List StampView) → Type 0
HadCome (Row number) entries stamps = (place : ℕ) → 1 ≤ place → place < length entries → length (row_entries (take place entries)) < number
HadCome (Second second) entries stamps = All (λ (stamp : StampView). stamp.time ≤ second) (drop 1 stamps)

-- this many of the entries had come by that moment: it is the longest beginning of them that had
pub record IsKeptAt (moment : Moment) (entries : List (List ℕ)) (stamps : List StampView) (count : ℕ) : Type 0 where
  pub within : count ≤ length entries
  pub had_come : HadCome moment (take count entries) (take count stamps)
  pub longest : (more : ℕ) → more ≤ length entries → HadCome moment (take more entries) (take more stamps) → more ≤ count

-- Once an entry comes after a moment, what comes later changes nothing of what had come by then.
abbrev pub WhatComesLaterChangesNothing : Type 0
WhatComesLaterChangesNothing = (moment : Moment) (entries : List (List ℕ)) (stamps : List StampView) (entry : List ℕ) (stamp : StampView) (later : List (List ℕ)) (later_stamps : List StampView) (count : ℕ)
    → length stamps ≡ length entries → (HadCome moment (entries ++ entry ∷ []) (stamps ++ stamp ∷ []) → ⊥)
    → IsKeptAt moment entries stamps count → IsKeptAt moment (entries ++ entry ∷ later) (stamps ++ stamp ∷ later_stamps) count
