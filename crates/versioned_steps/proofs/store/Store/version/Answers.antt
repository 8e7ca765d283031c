use Rattle.std.proofs.Common.{ap, sym, ◌∙◌, ◌≡◌}
use Rattle.std.specs.Map.{lookup}
use Rattle.versioned_steps.specs.Stores.{StoreView, stored_of}
use Rattle.versioned_steps.specs.declared.stored.Stored.{Stored}
use Rattle.versioned_steps.proofs.StoreLemmas.{stored_older}
use Rattle.versioned_steps.proofs.store.Store.version.Goals as goal

pub returns-in-Some-get : goal.returns-in-Some-get
returns-in-Some-get g c =
    let s : StoreView g.row.P.Denot g.row.P-Part.Denot g.row.P-Value.Denot =
    record { owner = c.self.inside.parts; length = c.self.inside.length; recent = c.self.inside.recent.items; older = c.self.inside.older.entries } in
    let stored : stored_of (g.P.Parted.rules s.owner) s c.args.part ≡ c.in-Some-get.stored.now =
    stored_older (g.P.Parted.rules s.owner) g.P.Part.PartialEq.eq (g.met.P.Parted.part_eq s.owner) s c.args.part c.in-Some-get.stored.now
    (c.in-None.ensures ∙ ap (λ l. lookup (g.P.Part.PartialEq.eq c.args.part) l) c.deref.ensures.value) c.in-Some-get.ensures.value in
    rw (← c.self.view_is) (ap (λ (x : Stored g.row.P-Value.Denot). x.version) (sym stored))
