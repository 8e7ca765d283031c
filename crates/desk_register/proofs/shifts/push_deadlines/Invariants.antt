use Rattle.std.proofs.Common.{◌≡◌, ◌++◌, drop, string_bytes}
use Rattle.std.specs.List.{flat_map}
use Rattle.desk_register.specs.Shifts.{deadline_shift}
use Rattle.desk_register.proofs.shifts.push_deadlines.Given as goal

-- the lines so far, and those of the deadlines that are left, are all the lines
abbrev pub invariant-loop-deadline : goal.invariant-loop-deadline
invariant-loop-deadline l = string_bytes l.text ++ flat_map (deadline_shift l.court l.before l.cases.named l.case) (drop l.deadline-index l.deadlines) ≡ string_bytes l.fn.text ++ flat_map (deadline_shift l.court l.before l.cases.named l.case) l.deadlines
