use Rattle.std.proofs.Common.{◌≡◌, fold}
use Rattle.published_docket.specs.Changes.{applied_to}
use Rattle.published_docket.proofs.held.Held.fill.Given as goal

-- what is pending changes nothing, where it didn't before
abbrev pub invariant-loop-count : goal.invariant-loop-count
invariant-loop-count l = record {
  shown : l.self.shown ≡ l.fn.self.shown;
  same : fold applied_to l.fn.self.shown l.fn.self.pending ≡ l.fn.self.shown → fold applied_to l.fn.self.shown l.self.pending ≡ l.fn.self.shown;
}
