use Rattle.std.proofs.Common.{◌∙◌, sym, arith}
use Rattle.row_fields.proofs.LineLemmas.{count_later, count_past, count_quote, count_there}
use Rattle.row_fields.proofs.line.count_outside.Goals as goal
use Rattle.row_fields.proofs.line.count_outside.Goals.{then-byte-eq34, else-byte-eq34+then-separates, else-byte-eq34+else-separates}

pub loop-byte-preserved : goal.loop-byte-preserved
loop-byte-preserved c =
    elim c.if-byte-eq34.branch [
      | then-byte-eq34 w ↦ rw (w.quoted-is, w.count-is) (count_quote c.args.line.now c.loop-byte.byte-index c.loop-byte-test.true c.args.mark c.loop-byte.quoted c.loop-byte.count c.loop-byte.invariant.0 w.if-byte-eq34.true, omega (arith, c.loop-byte.invariant.1))
      | else-byte-eq34+then-separates w ↦ rw (w.quoted-is, w.count-is) (count_there c.args.line.now c.loop-byte.byte-index c.loop-byte-test.true c.args.mark c.loop-byte.quoted c.loop-byte.count c.loop-byte.invariant.0 w.if-byte-eq34.false (sym w.separates.ensures ∙ w.if-separates.true), omega (arith, c.loop-byte.invariant.1))
      | else-byte-eq34+else-separates w ↦ rw (w.quoted-is, w.count-is) (count_later c.args.line.now c.loop-byte.byte-index c.loop-byte-test.true c.args.mark c.loop-byte.quoted c.loop-byte.count c.loop-byte.invariant.0 w.if-byte-eq34.false (sym w.separates.ensures ∙ w.if-separates.false), omega (arith, c.loop-byte.invariant.1))
    ]

pub returns : goal.returns
returns c = count_past c.args.line.now c.loop-byte.byte-index c.args.mark c.loop-byte.quoted c.loop-byte.count c.loop-byte-test.false c.loop-byte.invariant.0
