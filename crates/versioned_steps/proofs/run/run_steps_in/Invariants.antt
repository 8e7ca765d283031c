use Rattle.std.proofs.Common.{◌≡◌, ◌≤◌, length, take, vec_capacity}
use Rattle.versioned_steps.specs.World.{IsRun, opening_world}
use Rattle.versioned_steps.proofs.run.run_steps_in.Given as goal

-- the steps so far, with their outcomes, are a run to the state, and there is room for the other outcomes
abbrev pub invariant-loop-step : goal.invariant-loop-step
invariant-loop-step g l = record {
  owner : l.state.owner ≡ l.fn.parts;
  run : IsRun (g.P.Parted.rules l.fn.parts) (opening_world l.clerks) (take l.step-index l.steps) l.outcomes.items l.state.world;
  count : length l.outcomes.items ≡ l.step-index;
  room : length l.steps ≤ vec_capacity l.outcomes;
}
