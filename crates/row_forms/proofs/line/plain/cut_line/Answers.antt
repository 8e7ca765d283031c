use Rattle.std.proofs.Common.{◌≡◌, ◌∙◌, Some, get_or, inl, inr, ap, arith}
use Rattle.std.specs.Prelude.{◌⊎◌}
use Rattle.std.specs.List.{slice_range}
use Rattle.csv.specs.Records.{fields_of, partial_of}
use Rattle.row_forms.proofs.LineLemmas.PlainLemmas.{cut_comma, cut_end, cut_past, cut_within, one_field, range_more}
use Rattle.row_forms.proofs.line.plain.cut_line.Goals as goal
use Rattle.row_forms.proofs.line.plain.cut_line.Goals.{then-byte-eq13-via-then-byte-eq13, then-byte-eq13-via-else-byte-eq13+then-byte-eq10, then-byte-eq44+in_ok-push_field-2, else-byte-eq44}

pub returns-then-byte-eq13 : goal.returns-then-byte-eq13
returns-then-byte-eq13 c = λ e.
    let field = slice_range c.args.bytes.now c.loop-i.start c.loop-i.i in
    let is : (get_or c.args.bytes.now c.loop-i.i 0 ≡ 13) ⊎ (get_or c.args.bytes.now c.loop-i.i 0 ≡ 10) =
    elim c.then-byte-eq13.branch [
      | then-byte-eq13-via-then-byte-eq13 w ↦ inl w.if-byte-eq13.true
      | then-byte-eq13-via-else-byte-eq13+then-byte-eq10 w ↦ inr w.if-byte-eq10.true
    ] in
    cut_end c.args.bytes.now c.loop-i.i c.loop-i-test.true (fields_of c.loop-i.row) field c.loop-i.invariant.whole is
    ∙ ap Some (one_field (fields_of c.loop-i.row) (fields_of c.push_field.new.self) (partial_of c.loop-i.row) field c.loop-i.invariant.partial c.in_ok-push_field.ensures.fields)

pub loop-i-preserved : goal.loop-i-preserved
loop-i-preserved c =
    let field = slice_range c.args.bytes.now c.loop-i.start c.loop-i.i in
    elim c.if-byte-eq44.branch [
      | then-byte-eq44+in_ok-push_field-2 w ↦
          let after = fields_of w.push_field-then-byte-eq44.new.self in
          let more = one_field (fields_of c.loop-i.row) after (partial_of c.loop-i.row) field c.loop-i.invariant.partial w.in_ok-push_field-2.ensures.fields in
          record {
            begun = omega arith;
            whole = rw (w.row-is, w.start-is) (cut_comma c.args.bytes.now c.loop-i.i c.loop-i-test.true (fields_of c.loop-i.row) field c.loop-i.invariant.whole after w.if-byte-eq44.true more);
            partial = rw w.row-is w.in_ok-push_field-2.ensures.partial;
          }
      | else-byte-eq44 w ↦
          record {
            begun = omega arith;
            whole = rw (w.row-is, w.start-is, range_more c.args.bytes.now c.loop-i.start c.loop-i.i c.loop-i.invariant.begun c.loop-i-test.true) (cut_within c.args.bytes.now c.loop-i.i c.loop-i-test.true (fields_of c.loop-i.row) field c.loop-i.invariant.whole c.if-byte-eq34.false w.if-byte-eq44.false c.if-byte-eq13.false c.if-byte-eq10.false);
            partial = rw w.row-is c.loop-i.invariant.partial;
          }
    ]

pub returns : goal.returns
returns c = λ e.
    cut_past c.args.bytes.now c.loop-i.i (fields_of c.loop-i.row) c.loop-i.start c.loop-i-test.false c.loop-i.auto.i-end c.loop-i.invariant.whole
    ∙ ap Some (one_field (fields_of c.loop-i.row) (fields_of c.push_field-2.new.self) (partial_of c.loop-i.row) (slice_range c.args.bytes.now c.loop-i.start _) c.loop-i.invariant.partial c.in_ok-push_field-3.ensures.fields)
