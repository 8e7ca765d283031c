use Rattle.program_runs.proofs.parallel.division.divide_after.Given as goal

abbrev pub invariant-loop-at : goal.invariant-loop-at
invariant-loop-at l = Unit {0}
