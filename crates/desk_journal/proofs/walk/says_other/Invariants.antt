use Rattle.std.proofs.Common.{length}
use Rattle.desk_journal.proofs.WalkLemmas.{IsWalked}
use Rattle.desk_journal.proofs.walk.says_other.Given as goal

abbrev pub invariant-loop-found : goal.invariant-loop-found
invariant-loop-found l = IsWalked l.durable l.previous l.start l.last l.behind

abbrev pub decreases-loop-found : goal.decreases-loop-found
decreases-loop-found l = length l.behind
