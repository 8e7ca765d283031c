use Rattle.std.proofs.Common.{◌≡◌, ℕ, drop, max}
use Rattle.std.specs.Prelude.{slice_index_or}
use Rattle.docket_rows.specs.declared.command.Counted.{Counted}
use Rattle.desk_numbers.specs.Kept.{after_given}
use Rattle.desk_numbers.specs.Tops.{slot_of}
use Rattle.desk_numbers.proofs.kept.tops_of.Given as goal

-- what is noted, and what the other rows gave
abbrev pub invariant-rows : goal.invariant-rows
invariant-rows l = (case : ℕ) (counted : Counted) → max (slice_index_or l.tops (slot_of case counted) 0) (after_given (drop l.row-index l.rows) case counted) ≡ after_given l.rows case counted
