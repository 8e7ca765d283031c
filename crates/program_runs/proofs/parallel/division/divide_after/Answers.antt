use Rattle.std.proofs.Common.{◌+◌, true, inl, take-append-drop}
use Rattle.program_runs.proofs.ParallelLemmas.RecordLemmas.{ends_there}
use Rattle.program_runs.proofs.parallel.division.divide_after.Goals as goal

pub returns-then-text-at-eq10 : goal.returns-then-text-at-eq10
returns-then-text-at-eq10 c =
    let at = c.loop-at.at in
    let text = c.args.text.now in
    record {
      whole = rw (c.split_at.ensures.front, c.split_at.ensures.back) (take-append-drop (at + 1) text);
      cut = inl (rw c.split_at.ensures.front (ends_there text at true c.loop-at-test.true c.if-text-at-eq10.true));
    }
