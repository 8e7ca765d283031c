use Rattle.court_writing.proofs.NamesLemmas.{same_more}
use Rattle.court_writing.proofs.writing.are_names.Goals as goal

pub loop-place-preserved : goal.loop-place-preserved
loop-place-preserved c =
    same_more c.args.read.now c.args.names.now c.loop-place.place _ c.loop-place-test.true (c.is_name_at.ensures c.if-not-is_name_at.false) c.loop-place.invariant
