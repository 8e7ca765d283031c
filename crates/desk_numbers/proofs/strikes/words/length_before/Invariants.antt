use Rattle.std.proofs.Common.{◌≡◌, ◌≤◌, ◌+◌, ◌-◌, drop, length}
use Rattle.desk_numbers.specs.Strikes.Line.{length_before}
use Rattle.desk_numbers.proofs.strikes.words.length_before.Given as goal

-- the bytes so far, and those that come now
abbrev pub invariant-count : goal.invariant-count
invariant-count l = record { whole : l.count + length_before l.byte (drop l.count l.text) ≡ length_before l.byte l.text; within : l.count ≤ length l.text }

abbrev pub decreases-count : goal.decreases-count
decreases-count l = length l.text - l.count
