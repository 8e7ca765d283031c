use Rattle.std.proofs.Common.{◌≡◌, fold, take, None}
use Rattle.docket_rows.specs.Facts.{closed_by}
use Rattle.docket_rows.proofs.dated.closing_by.Given as goal

-- what the facts so far come to
abbrev pub invariant-loop-fact : goal.invariant-loop-fact
invariant-loop-fact l = l.closed ≡ fold (closed_by l.day) None (take l.fact-index l.facts)
