use Rattle.std.proofs.Common.{◌≡◌, ◌++◌, drop, string_bytes}
use Rattle.stored_steps.specs.Told.{told}
use Rattle.stored_steps.proofs.outcomes.push_outcomes.Given as goal

-- the lines so far, and those of the outcomes that are left, are all the lines
abbrev pub invariant-loop-outcome : goal.invariant-loop-outcome
invariant-loop-outcome l = string_bytes l.text ++ told l.clock (drop l.outcome-index l.outcomes) ≡ string_bytes l.fn.text ++ told l.clock l.outcomes
