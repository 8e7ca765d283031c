use Rattle.std.proofs.Common.{◌≡◌, ◌+◌, ◌-◌, ℕ, length}
use Rattle.std.specs.Prelude.{slice_index_or}
use Rattle.desk_numbers.proofs.tops.lengthen.Given as goal

-- what is at each slot is as it was
abbrev pub invariant-zeros : goal.invariant-zeros
invariant-zeros l = (s : ℕ) → slice_index_or l.list.items s 0 ≡ slice_index_or l.fn.list.items s 0

abbrev pub decreases-zeros : goal.decreases-zeros
decreases-zeros l = (l.slot + 1) - length l.list.items
