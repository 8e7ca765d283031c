use Rattle.std.proofs.Common.{append-nil, sym}
use Rattle.report_memo.proofs.sources.push_source.Goals as goal

pub returns-in-None : goal.returns-in-None
returns-in-None c = rw c.in-None.is (sym (append-nil _))
