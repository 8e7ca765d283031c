use Rattle.std.proofs.Common.{◌≡◌, fold, take, None}
use Rattle.docket_rows.specs.Facts.{ended_then}
use Rattle.docket_rows.proofs.fact.ended_in.Given as goal

-- what the facts so far come to
abbrev pub invariant-loop-fact : goal.invariant-loop-fact
invariant-loop-fact l = l.ending ≡ fold (ended_then l.number) None (take l.fact-index l.facts)
