-- The least number after all that were given, by case and kind, in one list.
use Rattle.std.specs.Prelude.{◌≡◌, ℕ, ◌+◌, ◌*◌, List, Option, max, nat_eq, slice_index_or, if◌then◌else◌}
use Rattle.docket_rows.specs.declared.command.Counted.{Counted}
use Rattle.docket_rows.specs.declared.command.Counted.TheVariants.{Deadline, Motion}
use Rattle.desk_numbers.specs.declared.given.Given.{Given}
use Rattle.desk_numbers.specs.Kept.{after_given, after_one}

-- where the list has that of a case and kind, counted from 0
abbrev pub slot_of : (case : ℕ) → Counted → ℕ
slot_of case Deadline = case * 2
slot_of case Motion = case * 2 + 1

-- what is at a slot once the one at another is no less than this
abbrev pub raised : List ℕ → (slot next : ℕ) → (s : ℕ) → ℕ
raised tops slot next s = if nat_eq s slot then max (slice_index_or tops s 0) next else slice_index_or tops s 0

-- what a row gave is noted
abbrev pub Notes : (before : List ℕ) → Option Given → (after : List ℕ) → Type 0
Notes before row after = (case : ℕ) (counted : Counted) → slice_index_or after (slot_of case counted) 0 ≡ max (slice_index_or before (slot_of case counted) 0) (after_one row case counted)

-- all that rows gave is noted
abbrev pub AllNoted : (tops : List ℕ) → List (Option Given) → Type 0
AllNoted tops rows = (case : ℕ) (counted : Counted) → slice_index_or tops (slot_of case counted) 0 ≡ after_given rows case counted
