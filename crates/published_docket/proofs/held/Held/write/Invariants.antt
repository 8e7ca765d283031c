use Rattle.std.proofs.Common.{◌≡◌, ◌++◌, length}
use Rattle.published_docket.specs.Changes.{puts_of}
use Rattle.published_docket.proofs.held.Held.write.Given as goal

-- what was taken off is pending
abbrev pub invariant-loop-write : goal.invariant-loop-write
invariant-loop-write l = record {
  shown : l.self.shown ≡ l.fn.self.shown;
  pending : l.self.pending ++ puts_of l.version l.writes.items ≡ l.fn.self.pending ++ puts_of l.version l.fn.writes.items;
}

abbrev pub decreases-loop-write : goal.decreases-loop-write
decreases-loop-write l = length l.writes.items
