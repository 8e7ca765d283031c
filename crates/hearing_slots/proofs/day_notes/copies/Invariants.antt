use Rattle.std.proofs.Common.{◌≡◌, take}
use Rattle.hearing_slots.proofs.day_notes.copies.Given as goal

-- the shards so far
abbrev pub invariant-loop-shard : goal.invariant-loop-shard
invariant-loop-shard l = l.copies.items ≡ take l.shard-index l.shards
