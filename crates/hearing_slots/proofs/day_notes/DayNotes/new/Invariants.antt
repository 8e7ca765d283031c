use Rattle.std.proofs.Common.{◌≡◌, [], replicate}
use Rattle.hearing_slots.proofs.day_notes.DayNotes.new.Given as goal

-- as many as there were turns
abbrev pub invariant-loop-number : goal.invariant-loop-number
invariant-loop-number l = l.shards.items ≡ replicate l._number []
