use Rattle.std.proofs.Common.{◌∙◌, ap}
use Rattle.left_right.specs.Sides.{view}
use Rattle.published_docket.specs.Words.{BoardView}
use Rattle.clerk_seats.proofs.SeenLemmas.{same_history, looks_on, looks_nowhere}
use Rattle.clerk_seats.proofs.looking.looked.Goals as goal

pub read_at-draft-requires-clause-book : goal.read_at-draft-requires-clause-book
read_at-draft-requires-clause-book g c =
    ap (λ (x : BoardView). x.trail.book) c.get.ensures ∙ same_history c.requires.knows_of c.in-Ok.reading.part.value (view c.in-Ok.reading.place) c.in-Ok.ensures

pub returns-in-Ok-clause-looks : goal.returns-in-Ok-clause-looks
returns-in-Ok-clause-looks g c =
    let draft = c.read_at-draft.ensures in
    looks_on g.L.NamesOffice.setup c.args.trail.now (view c.args.reader.place) c.requires c.read_at-draft.result c.in-Ok.reading.part.value (view c.in-Ok.reading.place) (view c.leave.result.place) c.read_at-draft.new.trail
    c.in-Ok.ensures c.leave.ensures.1 draft.older (rw c.get.ensures at draft.later) (rw c.get.ensures at draft.trail)

pub returns-in-Err-clause-looks : goal.returns-in-Err-clause-looks
returns-in-Err-clause-looks g c = looks_nowhere g.L.NamesOffice.setup c.args.trail.now (view c.args.reader.place) c.requires (view c.in-Err.reader.place) c.in-Err.ensures
