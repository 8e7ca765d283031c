use Rattle.std.proofs.Common.{◌∙◌, sym, ap}
use Rattle.row_fields.proofs.LineLemmas.{place_end, place_later, place_mark, place_padding, place_quote, place_there}
use Rattle.row_fields.specs.Line.{place_in}
use Rattle.row_fields.proofs.line.place_in.Goals as goal
use Rattle.row_fields.proofs.line.place_in.Goals.{then-left-eq0+else-not-is_padding, else-left-eq0+then-byte-eq34, else-left-eq0+else-byte-eq34+then-separates, else-left-eq0+else-byte-eq34+else-separates}

pub returns-then-not-is_padding : goal.returns-then-not-is_padding
returns-then-not-is_padding c =
    let line = c.as_bytes-bytes.result.now in
    place_there line c.loop-i.i c.loop-i-test.true c.args.mark c.loop-i.left c.loop-i.quoted (place_in c.args.mark c.args.number line) c.loop-i.invariant c.if-left-eq0.true (sym c.is_padding.ensures ∙ c.if-not-is_padding.true)
    ∙ ap (place_in c.args.mark c.args.number) c.as_bytes-bytes.ensures.value

pub loop-i-preserved : goal.loop-i-preserved
loop-i-preserved c =
    let line = c.as_bytes-bytes.result.now in
    let place = place_in c.args.mark c.args.number line in
    elim c.if-left-eq0.branch [
      | then-left-eq0+else-not-is_padding w ↦ rw (w.left-is, w.quoted-is) (place_padding line c.loop-i.i c.loop-i-test.true c.args.mark c.loop-i.left c.loop-i.quoted place c.loop-i.invariant w.if-left-eq0.true (sym w.is_padding.ensures ∙ w.if-not-is_padding.false))
      | else-left-eq0+then-byte-eq34 w ↦ rw (w.left-is, w.quoted-is) (place_quote line c.loop-i.i c.loop-i-test.true c.args.mark c.loop-i.left c.loop-i.quoted place c.loop-i.invariant w.if-left-eq0.false w.if-byte-eq34.true)
      | else-left-eq0+else-byte-eq34+then-separates w ↦ rw (w.left-is, w.quoted-is) (place_mark line c.loop-i.i c.loop-i-test.true c.args.mark c.loop-i.left c.loop-i.quoted place c.loop-i.invariant w.if-left-eq0.false w.if-byte-eq34.false (sym w.separates.ensures ∙ w.if-separates.true))
      | else-left-eq0+else-byte-eq34+else-separates w ↦ rw (w.left-is, w.quoted-is) (place_later line c.loop-i.i c.loop-i-test.true c.args.mark c.loop-i.left c.loop-i.quoted place c.loop-i.invariant w.if-left-eq0.false w.if-byte-eq34.false (sym w.separates.ensures ∙ w.if-separates.false))
    ]

pub returns : goal.returns
returns c =
    let line = c.as_bytes-bytes.result.now in
    place_end line c.loop-i.i c.args.mark c.loop-i.left c.loop-i.quoted (place_in c.args.mark c.args.number line) c.loop-i-test.false c.loop-i.auto.i-end c.loop-i.invariant
    ∙ ap (place_in c.args.mark c.args.number) c.as_bytes-bytes.ensures.value
