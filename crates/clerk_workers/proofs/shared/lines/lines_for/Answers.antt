use Rattle.std.specs.Arc.{arc_value}
use Rattle.std.proofs.Common.{◌∙◌, ◌+◌, [], ◌∷◌, length, length-append, ap}
use Rattle.std.proofs.lemmas.List.Elements.{All-push}
use Rattle.clerk_workers.specs.Shared.Lines.{HoldLines}
use Rattle.clerk_workers.proofs.shared.lines.lines_for.Goals as goal

pub loop-clerk-preserved : goal.loop-clerk-preserved
loop-clerk-preserved c =
    let court = arc_value c.args.court.now in
    let before = c.loop-clerk.lines.items in
    record {
      as_many = ap length c.push_reserved.ensures.items ∙ length-append before (c.new.result ∷ []) ∙ ap (λ n. n + 1) c.loop-clerk.invariant.as_many;
      empty = rw c.push_reserved.ensures.items (All-push (λ each. HoldLines court each []) before c.new.result c.loop-clerk.invariant.empty (rw c.in_ok-clone.ensures.cases at c.new.ensures));
      room = rw c.push_reserved.ensures.capacity c.loop-clerk.invariant.room;
    }
