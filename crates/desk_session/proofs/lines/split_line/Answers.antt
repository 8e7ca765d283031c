use Rattle.std.proofs.Common.{◌∙◌, subst, sym, take_all, arith}
use Rattle.desk_session.specs.Lines.{HasNoEnd}
use Rattle.desk_session.proofs.LineLemmas.{no_end_more}
use Rattle.desk_session.proofs.lines.split_line.Goals as goal

pub loop-place-preserved : goal.loop-place-preserved
loop-place-preserved c = no_end_more c.args.bytes.now c.loop-place.place c.loop-place-test.true c.loop-place.invariant (sym c.ends_line.ensures ∙ c.if-ends_line.false)

pub returns : goal.returns
returns c = subst HasNoEnd (take_all c.loop-place.place c.args.bytes.now (omega (arith, c.loop-place-test.false))) c.loop-place.invariant
