use Rattle.std.proofs.Common.{◌≡◌, ◌++◌, drop, string_bytes}
use Rattle.std.specs.List.{flat_map}
use Rattle.docket_shifts.specs.Shifts.{kept_line}
use Rattle.docket_shifts.proofs.shifts.push_all_kept.Given as goal

-- the lines so far, and those of what is left, are all the lines
abbrev pub invariant-loop-shown : goal.invariant-loop-shown
invariant-loop-shown l = string_bytes l.text ++ flat_map (kept_line l.cases.named l.case l.counted l.is) (drop l.shown-index l.was) ≡ string_bytes l.fn.text ++ flat_map (kept_line l.cases.named l.case l.counted l.is) l.was
