use Rattle.std.proofs.Common.{◌≡◌, drop, fold, map}
use Rattle.reason_notes.specs.Readings.Earlier.{earlier_of}
use Rattle.reason_notes.specs.Readings.Others.{earliest_of, other_by}
use Rattle.reason_notes.proofs.readings.others.earliest_other.Given as goal

-- the earliest of the ends so far, and of those that the readings left give, is the earliest of all
abbrev pub invariant-loop-reading : goal.invariant-loop-reading
invariant-loop-reading l =
    fold (earlier_of l.clock) l.earliest (map (other_by l.days l.clock l.row) (drop l.reading-index l.readings)) ≡ earliest_of l.clock (map (other_by l.days l.clock l.row) l.readings)
