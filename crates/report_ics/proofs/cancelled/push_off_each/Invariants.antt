use Rattle.std.proofs.Common.{◌≡◌, ◌++◌, drop, option_to_list}
use Rattle.std.specs.List.{flat_map}
use Rattle.report_ics.specs.Appointments.{off_hearing}
use Rattle.report_ics.proofs.cancelled.push_off_each.Given as goal

-- those of the motions so far, and of the motions that are left, are all
abbrev pub invariant-loop-motion : goal.invariant-loop-motion
invariant-loop-motion l =
    l.list.items ++ flat_map (λ number. option_to_list (off_hearing l.choice l.histories l.case number)) (drop l.motion-index l.motions) ≡ l.fn.list.items ++ flat_map (λ number. option_to_list (off_hearing l.choice l.histories l.case number)) l.motions
