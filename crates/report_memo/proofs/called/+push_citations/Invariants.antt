use Rattle.std.proofs.Common.{length}
use Rattle.report_memo.proofs.called.+push_citations.Given as goal

abbrev pub decreases-push_citations : goal.decreases-push_citations
decreases-push_citations l = length l.periods.now
