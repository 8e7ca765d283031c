use Rattle.std.proofs.Common.{arith}
use Rattle.docket_laws.proofs.ReadsEnd.{reading_ends}
use Rattle.docket_laws.proofs.reads.reading_ends.Goals as goal

pub returns : goal.returns
returns c = record { fewer = reading_ends; most = λ setup few. omega (arith, few) }
