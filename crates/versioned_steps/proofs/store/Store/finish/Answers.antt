use Rattle.std.proofs.Common.{◌≡◌, ◌+◌, [], refl, ap, sym, ◌∙◌}
use Rattle.versioned_steps.specs.Stores.{StoreView, ChangeView}
use Rattle.versioned_steps.proofs.StoreLemmas.{replays_put}
use Rattle.versioned_steps.proofs.store.Store.finish.Goals as goal

pub returns-clause-put : goal.returns-clause-put
returns-clause-put g c = λ h e.
    let s : StoreView g.row.P.Denot g.row.P-Part.Denot g.row.P-Value.Denot =
    record { owner = c.self.inside.parts; length = c.self.inside.length; recent = c.self.inside.recent.items; older = c.self.inside.older.entries } in
    let t : StoreView g.row.P.Denot g.row.P-Part.Denot g.row.P-Value.Denot = record s { length = c.change.inside.place; recent = c.change.inside.writes.items } in
    let longer : t.length ≡ s.length + 1 =
    ap (λ (x : ChangeView g.row.P-Part.Denot g.row.P-Value.Denot). x.place) c.change.view_is
    ∙ c.requires.place
    ∙ ap (λ (x : StoreView g.row.P.Denot g.row.P-Part.Denot g.row.P-Value.Denot). x.length + 1) (sym c.self.view_is) in
    let none : s.recent ≡ [] = ap (λ (x : StoreView g.row.P.Denot g.row.P-Part.Denot g.row.P-Value.Denot). x.recent) c.self.view_is ∙ c.requires.none_since in
    rw (← c.self.view_is, ← c.change.view_is) (λ replays writes. replays_put (g.P.Parted.rules s.owner) h e s t none longer writes refl replays)
