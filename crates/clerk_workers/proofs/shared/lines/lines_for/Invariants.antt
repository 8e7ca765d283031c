use Rattle.std.specs.Arc.{arc_value}
use Rattle.std.proofs.Common.{◌≡◌, ◌≤◌, [], All, length, vec_capacity}
use Rattle.clerk_workers.specs.Shared.Lines.{HoldLines}
use Rattle.clerk_workers.proofs.shared.lines.lines_for.Given as goal

-- those of the first clerks
abbrev pub invariant-loop-clerk : goal.invariant-loop-clerk
invariant-loop-clerk l = record {
  as_many : length l.lines.items ≡ l._clerk;
  empty : All (λ each. HoldLines (arc_value l.court) each []) l.lines.items;
  room : l.clerks ≤ vec_capacity l.lines;
}
