use Rattle.std.proofs.Common.{arith}
use Rattle.desk_session.proofs.FaultLemmas.{long_line}
use Rattle.desk_session.proofs.gather.go_on.Goals as goal

pub returns-then-len-ge-MAX_LINE-clause-fault : goal.returns-then-len-ge-MAX_LINE-clause-fault
returns-then-len-ge-MAX_LINE-clause-fault c = long_line c.args.begun.now.items c.args.byte c.requires (omega (arith, c.if-len-ge-MAX_LINE.true, c.len.ensures))
