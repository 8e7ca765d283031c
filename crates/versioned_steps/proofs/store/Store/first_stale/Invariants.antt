use Rattle.std.proofs.Common.{◌≡◌, drop}
use Rattle.versioned_steps.specs.Reads.{first_stale}
use Rattle.versioned_steps.specs.Drafts.{with_notes}
use Rattle.versioned_steps.specs.Stores.{stored_of}
use Rattle.versioned_steps.proofs.store.Store.first_stale.Given as goal

-- the first stale read among those that are left is the first among all
abbrev pub invariant-loop-i : goal.invariant-loop-i
invariant-loop-i g l =
    let version = λ (part : g.row.P-Part.Denot). (stored_of (g.P.Parted.rules l.self.owner) l.self part).version in
    first_stale version (with_notes (drop l.i l.copies) (drop l.i l.notes)) ≡ first_stale version (with_notes l.copies l.notes)
