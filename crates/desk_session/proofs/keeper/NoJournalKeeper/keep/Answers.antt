use Rattle.std.proofs.Common.{[]}
use Rattle.desk_session.proofs.StampedLemmas.{stamped_none}
use Rattle.desk_session.proofs.keeper.NoJournalKeeper.keep.Goals as goal

pub returns-clause-stamped : goal.returns-clause-stamped
returns-clause-stamped c = λ stamps has. stamped_none [] (λ some. Unit {0}) stamps has
