use Rattle.std.proofs.Common.{◌<◌, length}
use Rattle.desk_entries.proofs.docketed.last_note.Given as goal

-- the place is one of the entries
abbrev pub invariant-loop-place : goal.invariant-loop-place
invariant-loop-place l = l.last < length l.entries
