use Rattle.std.proofs.Common.{refl, sym, ◌∙◌}
use Rattle.versioned_steps.specs.Stores.{StoreView}
use Rattle.versioned_steps.proofs.StoreLemmas.{found_same, replays_kept}
use Rattle.versioned_steps.proofs.store.Store.put_away.Goals as goal

pub returns-clause-kept : goal.returns-clause-kept
returns-clause-kept g c = λ h.
    let r = g.P.Parted.rules c.self.inside.parts in
    let eq = g.P.Part.PartialEq.eq in
    let agrees = g.met.P.Parted.part_eq c.self.inside.parts in
    let s : StoreView g.row.P.Denot g.row.P-Part.Denot g.row.P-Value.Denot =
    record { owner = c.self.inside.parts; length = c.self.inside.length; recent = c.self.inside.recent.items; older = c.self.inside.older.entries } in
    let t : StoreView g.row.P.Denot g.row.P-Part.Denot g.row.P-Value.Denot =
    record { owner = c.self.inside.parts; length = c.self.inside.length; recent = c.put_away.new.recent.items; older = c.put_away.new.older.entries } in
    rw (← c.self.view_is) (replays_kept r h s t refl (λ part.
    found_same (r.same_part part) (eq part) (agrees part) t.length t.recent t.older
    ∙ c.put_away.ensures.found part
    ∙ sym (found_same (r.same_part part) (eq part) (agrees part) s.length s.recent s.older)))
