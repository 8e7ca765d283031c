use Rattle.std.proofs.Common.{◌≡◌, ◌-◌, length}
use Rattle.desk_numbers.specs.Said.{extended}
use Rattle.desk_numbers.proofs.said.extend.Given as goal

-- the list comes to the same
abbrev pub invariant-rows : goal.invariant-rows
invariant-rows l = extended l.kept.items l.rows ≡ extended l.fn.kept.items l.rows

abbrev pub decreases-rows : goal.decreases-rows
decreases-rows l = l.rows - length l.kept.items
