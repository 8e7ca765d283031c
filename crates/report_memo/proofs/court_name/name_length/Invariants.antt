use Rattle.std.proofs.Common.{◌≡◌, ◌≤◌, ◌+◌, ◌-◌, drop, length}
use Rattle.report_memo.specs.CourtName.{name_length}
use Rattle.report_memo.proofs.court_name.name_length.Given as goal

-- the bytes so far, and those of the name that come now
abbrev pub invariant-loop-count : goal.invariant-loop-count
invariant-loop-count l = record { whole : l.count + name_length (drop l.count l.text) ≡ name_length l.text; within : l.count ≤ length l.text }

abbrev pub decreases-loop-count : goal.decreases-loop-count
decreases-loop-count l = length l.text - l.count
