use Rattle.std.proofs.Common.{◌≡◌, ◌≤◌, ◌+◌, ◌-◌, drop, length}
use Rattle.case_numbers.specs.NameLine.{first_length}
use Rattle.case_numbers.proofs.name_line.first_length.Given as goal

-- the bytes so far, and those that come now
abbrev pub invariant-loop-count : goal.invariant-loop-count
invariant-loop-count l = record { whole : l.count + first_length (drop l.count l.text) ≡ first_length l.text; within : l.count ≤ length l.text }

abbrev pub decreases-loop-count : goal.decreases-loop-count
decreases-loop-count l = length l.text - l.count
