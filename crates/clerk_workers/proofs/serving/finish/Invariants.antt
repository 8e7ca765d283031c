use Rattle.clerk_workers.specs.Inside.Steps.{FinishesNothing}
use Rattle.clerk_workers.proofs.serving.finish.Given as goal

-- nothing is finished so far
abbrev pub invariant-loop-try : goal.invariant-loop-try
invariant-loop-try g l = FinishesNothing l.fn.seat l.seat
