use Rattle.std.proofs.Common.{◌≡◌, false, take, drop}
use Rattle.std.specs.List.{find, list_any}
use Rattle.std.specs.Ordering.{int_eq}
use Rattle.deadline_reasons.proofs.access.outage_on.Given as goal

-- none of the outages so far lies on the day, so the first that does is among the others
abbrev pub invariant-loop-outage : goal.invariant-loop-outage
invariant-loop-outage l =
    (list_any (λ o. int_eq o.day l.fn.day) (take l.outage-index l.outage-items) ≡ false)
    × (find (λ o. int_eq o.day l.fn.day) l.outage-items ≡ find (λ o. int_eq o.day l.fn.day) (drop l.outage-index l.outage-items))
