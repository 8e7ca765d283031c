use Rattle.std.proofs.Common.{◌-◌, arith}
use Rattle.std.proofs.lemmas.Grind.{common_steps}
use Rattle.desk_session.proofs.ReadingLemmas.{ended_at}
use Rattle.desk_session.proofs.reading.ended_length.Goals as goal

pub returns-then-ends_line-clause-ended : goal.returns-then-ends_line-clause-ended
returns-then-ends_line-clause-ended c = λ some begun.
    ended_at c.args.bytes.now (c.loop-count.count - 1) c.loop-count.count (omega (arith, some)) (omega (arith, some, c.loop-count.invariant)) (grind (arith, common_steps)) begun
