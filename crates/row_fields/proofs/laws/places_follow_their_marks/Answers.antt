use Rattle.row_fields.proofs.LawLemmas.{places_follow_their_marks_lem}
use Rattle.row_fields.proofs.laws.places_follow_their_marks.Goals as goal

pub returns : goal.returns
returns c = places_follow_their_marks_lem
