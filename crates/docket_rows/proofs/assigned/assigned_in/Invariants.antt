use Rattle.std.proofs.Common.{◌≡◌, fold, take, None}
use Rattle.docket_rows.specs.Facts.{assigned_then}
use Rattle.docket_rows.proofs.assigned.assigned_in.Given as goal

-- what the facts so far come to
abbrev pub invariant-loop-fact : goal.invariant-loop-fact
invariant-loop-fact l = l.assigned ≡ fold assigned_then None (take l.fact-index l.facts)
