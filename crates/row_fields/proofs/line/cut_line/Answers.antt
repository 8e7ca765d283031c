use Rattle.std.proofs.Common.{◌∙◌, sym}
use Rattle.std.specs.Prelude.{string_bytes}
use Rattle.csv.specs.Records.{fields_of}
use Rattle.row_fields.proofs.LineLemmas.{cut_mark, cut_past, cut_quote, cut_within}
use Rattle.row_fields.proofs.line.cut_line.Goals as goal
use Rattle.row_fields.proofs.line.cut_line.Goals.{then-byte-eq34, else-byte-eq34+then-separates+in_ok-push_field, else-byte-eq34+else-separates+in_ok-push_plain}

pub loop-byte-preserved : goal.loop-byte-preserved
loop-byte-preserved c =
    let line = c.as_bytes-bytes.result.now in
    let fields = fields_of c.loop-byte.fields in
    let field = string_bytes c.loop-byte.field in
    elim c.if-byte-eq34.branch [
      | then-byte-eq34 w ↦
          rw (w.fields-is, w.field-is, w.quoted-is)
          (cut_quote line c.loop-byte.byte-index c.loop-byte-test.true c.args.mark c.loop-byte.quoted fields field c.loop-byte.invariant w.if-byte-eq34.true)
      | else-byte-eq34+then-separates+in_ok-push_field w ↦
          rw (w.fields-is, w.field-is, w.quoted-is, w.in_ok-push_field.ensures.fields, w.trim.ensures.trim, w.as_str.ensures.value, w.clear.ensures.bytes)
          (cut_mark line c.loop-byte.byte-index c.loop-byte-test.true c.args.mark c.loop-byte.quoted fields field c.loop-byte.invariant w.if-byte-eq34.false (sym w.separates.ensures ∙ w.if-separates.true))
      | else-byte-eq34+else-separates+in_ok-push_plain w ↦
          rw (w.fields-is, w.field-is, w.quoted-is, w.in_ok-push_plain.ensures)
          (cut_within line c.loop-byte.byte-index c.loop-byte-test.true c.args.mark c.loop-byte.quoted fields field c.loop-byte.invariant w.if-byte-eq34.false (sym w.separates.ensures ∙ w.if-separates.false))
    ]

pub returns : goal.returns
returns c =
    let line = c.as_bytes-bytes.result.now in
    let fields = fields_of c.loop-byte.fields in
    let field = string_bytes c.loop-byte.field in
    rw (c.in_ok-push_field-2.ensures.fields, c.trim-2.ensures.trim, c.as_str-2.ensures.value, ← c.as_bytes-bytes.ensures.value)
    (cut_past line c.loop-byte.byte-index c.args.mark c.loop-byte.quoted fields field c.loop-byte-test.false c.loop-byte.invariant)
