use Rattle.std.proofs.Common.{◌≡◌, ◌≤◌, ◌+◌, ◌-◌, drop, length}
use Rattle.std.specs.Char.{is_ascii_digit}
use Rattle.std.specs.List.{prefix_len}
use Rattle.case_numbers.proofs.forms.digits_before.Given as goal

-- the digits so far, and those that come now
abbrev pub invariant-loop-count : goal.invariant-loop-count
invariant-loop-count l = record { whole : l.count + prefix_len is_ascii_digit (drop l.count l.text) ≡ prefix_len is_ascii_digit l.text; within : l.count ≤ length l.text }

abbrev pub decreases-loop-count : goal.decreases-loop-count
decreases-loop-count l = length l.text - l.count
