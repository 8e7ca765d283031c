use Rattle.std.proofs.Common.{◌≡◌, false, take, drop}
use Rattle.std.specs.List.{find, list_any}
use Rattle.rule6.specs.Words.{meets_last_hour}
use Rattle.deadline_reasons.proofs.by_hours.outage_in_last_hour.Given as goal

-- none of the outages so far meets the hour, so the first that does is among the others
abbrev pub invariant-loop-outage : goal.invariant-loop-outage
invariant-loop-outage l =
    (list_any (meets_last_hour l.clock l.fn.end) (take l.outage-index l.outage-items) ≡ false)
    × (find (meets_last_hour l.clock l.fn.end) l.outage-items ≡ find (meets_last_hour l.clock l.fn.end) (drop l.outage-index l.outage-items))
