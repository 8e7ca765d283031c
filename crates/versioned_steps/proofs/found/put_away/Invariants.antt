use Rattle.std.proofs.Common.{◌≡◌, vec_len}
use Rattle.versioned_steps.specs.Stores.{found_in}
use Rattle.versioned_steps.proofs.found.put_away.Given as goal

-- every part is found as before
abbrev pub invariant-loop-older : goal.invariant-loop-older
invariant-loop-older g l = (q : g.row.T.Denot) →
    found_in (g.T.PartialEq.eq q) l.version l.recent.items l.older.entries ≡ found_in (g.T.PartialEq.eq q) l.fn.version l.fn.recent.items l.fn.older.entries

abbrev pub decreases-loop-older : goal.decreases-loop-older
decreases-loop-older g l = vec_len l.recent
