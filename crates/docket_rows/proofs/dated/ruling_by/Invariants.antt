use Rattle.std.proofs.Common.{◌≡◌, fold, take, None}
use Rattle.docket_rows.specs.Facts.{ruled_by}
use Rattle.docket_rows.proofs.dated.ruling_by.Given as goal

-- what the facts so far come to
abbrev pub invariant-loop-fact : goal.invariant-loop-fact
invariant-loop-fact l = l.ruled ≡ fold (ruled_by l.number l.day) None (take l.fact-index l.facts)
