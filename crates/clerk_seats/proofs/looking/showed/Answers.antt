use Rattle.std.proofs.Common.{◌∙◌, ap}
use Rattle.left_right.specs.Sides.{view}
use Rattle.published_docket.specs.Words.{BoardView}
use Rattle.clerk_seats.proofs.SeenLemmas.{same_history, looks_on, looks_nowhere}
use Rattle.clerk_seats.proofs.looking.showed.Goals as goal

pub show_at-view-requires-clause-book : goal.show_at-view-requires-clause-book
show_at-view-requires-clause-book g c =
    ap (λ (x : BoardView). x.trail.book) c.get.ensures ∙ same_history c.requires.knows_of c.in-Ok.reading.part.value (view c.in-Ok.reading.place) c.in-Ok.ensures

pub returns-in-Ok-clause-looks : goal.returns-in-Ok-clause-looks
returns-in-Ok-clause-looks g c =
    let shown = c.show_at-view.ensures in
    looks_on g.L.NamesOffice.setup c.args.trail.now (view c.args.reader.place) c.requires c.show_at-view.result c.in-Ok.reading.part.value (view c.in-Ok.reading.place) (view c.leave.result.place) c.show_at-view.new.trail
    c.in-Ok.ensures c.leave.ensures.1 shown.older (rw c.get.ensures at shown.later) (rw c.get.ensures at shown.trail)

pub returns-in-Err-clause-looks : goal.returns-in-Err-clause-looks
returns-in-Err-clause-looks g c = looks_nowhere g.L.NamesOffice.setup c.args.trail.now (view c.args.reader.place) c.requires (view c.in-Err.reader.place) c.in-Err.ensures
