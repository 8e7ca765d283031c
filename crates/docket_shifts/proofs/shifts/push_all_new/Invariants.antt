use Rattle.std.proofs.Common.{◌≡◌, ◌++◌, drop, string_bytes}
use Rattle.std.specs.List.{flat_map}
use Rattle.docket_shifts.specs.Shifts.{new_line}
use Rattle.docket_shifts.proofs.shifts.push_all_new.Given as goal

-- the lines so far, and those of what is left, are all the lines
abbrev pub invariant-loop-shown : goal.invariant-loop-shown
invariant-loop-shown l = string_bytes l.text ++ flat_map (new_line l.cases.named l.case l.counted l.was) (drop l.shown-index l.is) ≡ string_bytes l.fn.text ++ flat_map (new_line l.cases.named l.case l.counted l.was) l.is
