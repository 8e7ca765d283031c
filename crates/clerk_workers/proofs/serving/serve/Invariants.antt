use Rattle.std.proofs.Common.{take}
use Rattle.clerk_workers.specs.Noted.{IsNoted}
use Rattle.clerk_workers.proofs.serving.serve.Given as goal

-- the clerk's rows so far are done and noted
abbrev pub invariant-loop-row : goal.invariant-loop-row
invariant-loop-row g l = IsNoted g.K.Notes.hold g.L.NamesOffice.setup l.fn.seat (take l.row-index l.rows) l.notes l.seat
