use Rattle.std.proofs.Common.{◌≡◌, take}
use Rattle.clerk_seats.proofs.book.copy_writes.Given as goal

-- the writes so far are copied
abbrev pub invariant-loop-write : goal.invariant-loop-write
invariant-loop-write l = l.copies.items ≡ take l.write-index l.writes
