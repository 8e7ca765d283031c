use Rattle.desk_session.proofs.ShortLineLemmas.{shortens_more, shortens_none, shortens_past}
use Rattle.std.proofs.Common.{arith}
use Rattle.desk_session.proofs.short_lines.shorten.Goals as goal
use Rattle.desk_session.proofs.short_lines.shorten.Goals.{in-Some, in_default}

pub loop-place-init : goal.loop-place-init
loop-place-init c = shortens_none c.args.count.now c.args.bytes.now

pub loop-place-preserved : goal.loop-place-preserved
loop-place-preserved c =
    elim c.match-pass_on.branch [
      | in-Some w ↦ rw (w.bytes-is, w.kept-is) (shortens_more _ _ _ _ _ _ c.loop-place.invariant c.loop-place.auto.bytes (omega arith) _ w.in-Some.byte w.in-Some.ensures.byte c.pass_on.ensures.count)
      | in_default w ↦ rw (w.bytes-is, w.kept-is) (shortens_past _ _ _ _ _ _ c.loop-place.invariant c.loop-place.auto.bytes (omega arith) _ w.in_default.ensures.byte c.pass_on.ensures.count)
    ]
