use Rattle.std.proofs.Common.{◌≡◌, ◌++◌, drop, string_bytes}
use Rattle.std.specs.List.{flat_map}
use Rattle.desk_register.specs.Shifts.{motion_shift}
use Rattle.desk_register.proofs.shifts.push_motions.Given as goal

-- the lines so far, and those of the motions that are left, are all the lines
abbrev pub invariant-loop-motion : goal.invariant-loop-motion
invariant-loop-motion l = string_bytes l.text ++ flat_map (motion_shift l.court l.before l.cases.named l.case) (drop l.motion-index l.motions) ≡ string_bytes l.fn.text ++ flat_map (motion_shift l.court l.before l.cases.named l.case) l.motions
