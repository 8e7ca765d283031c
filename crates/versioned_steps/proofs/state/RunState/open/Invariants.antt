use Rattle.std.proofs.Common.{◌≡◌, ◌≤◌, None, replicate, vec_capacity}
use Rattle.versioned_steps.proofs.state.RunState.open.Given as goal

-- the clerks so far have nothing in hand, and there is room for all
abbrev pub invariant-loop-clerk : goal.invariant-loop-clerk
invariant-loop-clerk g l = record {
  idle : l.drafts.items ≡ replicate l._clerk None;
  room : l.clerks ≤ vec_capacity l.drafts;
}
