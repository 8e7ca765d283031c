use Rattle.std.proofs.Common.{length}
use Rattle.report_memo.proofs.called.+push_own_citations.Given as goal

abbrev pub decreases-push_own_citations : goal.decreases-push_own_citations
decreases-push_own_citations l = length l.periods.now
