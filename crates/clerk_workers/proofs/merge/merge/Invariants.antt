use Rattle.std.proofs.Common.{◌+◌, ◌≤◌, length, map, vec_capacity}
use Rattle.clerk_workers.specs.Inside.Merged.{AreFromTheLast}
use Rattle.clerk_workers.proofs.merge.merge.Given as goal

-- the last rows have their answers
abbrev pub invariant-loop-row : goal.invariant-loop-row
invariant-loop-row l = record {
  so_far : AreFromTheLast l.rows l.rest (map (λ list. list.items) l.fn.lists.items) (map (λ list. list.items) l.lists.items) l.answers.items;
  room : length l.answers.items + length l.rest ≤ vec_capacity l.answers;
}

abbrev pub decreases-loop-row : goal.decreases-loop-row
decreases-loop-row l = length l.rest
