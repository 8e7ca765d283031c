use Rattle.std.proofs.Common.{◌≡◌, ◌++◌, drop, map}
use Rattle.docket_shifts.specs.Sheets.{end_of}
use Rattle.docket_shifts.proofs.sheets.ends_of.Given as goal

-- the ends so far, and those of the deadlines that are left, are all
abbrev pub invariant-loop-deadline : goal.invariant-loop-deadline
invariant-loop-deadline l = l.ends.items ++ map (end_of l.court.clock) (drop l.deadline-index l.deadlines) ≡ map (end_of l.court.clock) l.deadlines
