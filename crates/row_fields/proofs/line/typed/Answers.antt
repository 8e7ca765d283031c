use Rattle.std.specs.Prelude.{string_bytes}
use Rattle.row_fields.proofs.LineLemmas.{is_above, is_none, typed_more, typed_next, typed_past}
use Rattle.row_fields.proofs.line.typed.Goals as goal
use Rattle.row_fields.proofs.line.typed.Goals.{then-more-gt0, else-more-gt0+in_ok-push_plain}

pub loop-i-preserved : goal.loop-i-preserved
loop-i-preserved c =
    let line = c.args.line.now in
    let text = string_bytes c.loop-i.text in
    elim c.if-more-gt0.branch [
      | then-more-gt0 w ↦
          rw (w.text-is, w.more-is)
          (typed_more line c.loop-i.i c.loop-i-test.true c.loop-i.more text c.loop-i.invariant (is_above c.loop-i.more w.if-more-gt0.true))
      | else-more-gt0+in_ok-push_plain w ↦
          rw (w.text-is, w.more-is, w.in_ok-push_plain.ensures, w.meant-byte.ensures, w.split_at.ensures.back)
          (typed_next line c.loop-i.i c.loop-i-test.true c.loop-i.more text c.loop-i.invariant (is_none c.loop-i.more w.if-more-gt0.false))
    ]

pub returns : goal.returns
returns c = typed_past c.args.line.now c.loop-i.i c.loop-i.more (string_bytes c.loop-i.text) c.loop-i-test.false c.loop-i.invariant
