use Rattle.std.proofs.Common.{ap, sym, ◌∙◌, Some, ◌≡◌, if◌then◌else◌}
use Rattle.std.specs.Map.{lookup}
use Rattle.versioned_steps.specs.Stores.{found_in}
use Rattle.versioned_steps.proofs.StoreLemmas.{put_one}
use Rattle.versioned_steps.proofs.found.put_away.Goals as goal

pub loop-older-preserved-in-Some : goal.loop-older-preserved-in-Some
loop-older-preserved-in-Some g c = λ q.
    let eq = g.T.PartialEq.eq in
    let reserved : lookup (eq q) c.reserve.new.self.entries ≡ lookup (eq q) c.loop-older.older.entries = c.reserve.ensures.entries.2 q in
    put_one g.met.T.Eq.laws q c.args.version c.pop.new.self.items c.in-Some.write c.loop-older.older.entries c.put.new.older.entries
    (c.put.ensures q ∙ ap (λ o. if eq c.in-Some.write.0 q then Some (record { version = c.args.version; value = c.in-Some.write.1 }) else o) reserved)
    ∙ ap (λ l. found_in (eq q) c.args.version l c.loop-older.older.entries) (sym c.in-Some.ensures.items)
    ∙ c.loop-older.invariant q
