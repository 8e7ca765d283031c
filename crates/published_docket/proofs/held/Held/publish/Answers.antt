use Rattle.std.proofs.Common.{fold, sym, subst}
use Rattle.published_docket.specs.Boards.{BoardView}
use Rattle.published_docket.specs.Changes.{applied_to}
use Rattle.published_docket.specs.Inside.Held.{HeldView}
use Rattle.published_docket.specs.Published.{MayShow}
use Rattle.published_docket.proofs.PublishedLemmas.{turns}
use Rattle.published_docket.proofs.held.Held.publish.Goals as goal

pub publish_as-writer-requires : goal.publish_as-writer-requires
publish_as-writer-requires g c next is =
    let now = c.self.inside.writer.desk.shown.value in
    let may = subst (λ (h : HeldView). MayShow h.shown (fold applied_to h.shown h.pending)) (sym c.self.view_is) c.requires in
    turns _ _ now next (subst (λ (y : BoardView). MayShow now y) (sym is) may)
