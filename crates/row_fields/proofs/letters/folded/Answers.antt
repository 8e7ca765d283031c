use Rattle.std.proofs.Common.{◌∙◌, ap, sym}
use Rattle.std.specs.Prelude.{not, string_bytes}
use Rattle.row_fields.specs.Letters.{folded, is_other}
use Rattle.row_fields.proofs.LetterLemmas.{left_out, stays, stays_past}
use Rattle.row_fields.proofs.letters.folded.Goals as goal
use Rattle.row_fields.proofs.letters.folded.Goals.{then-is_ascii_alphanumeric+in_ok-push_staying, else-is_ascii_alphanumeric}

pub loop-byte-preserved : goal.loop-byte-preserved
loop-byte-preserved c =
    let bytes = c.as_bytes-bytes.result.now in
    let l = c.loop-byte in
    elim c.if-is_ascii_alphanumeric.branch [
      | then-is_ascii_alphanumeric+in_ok-push_staying w ↦
          rw (w.word-is, w.last-is, w.gap-is, w.in_ok-push_staying.ensures)
          (stays is_other bytes l.byte-index c.loop-byte-test.true l.last l.gap (string_bytes l.word) (folded bytes) l.invariant (ap not (sym c.is_ascii_alphanumeric.ensures.value ∙ w.if-is_ascii_alphanumeric.true)))
      | else-is_ascii_alphanumeric w ↦
          rw (w.word-is, w.last-is, w.gap-is)
          (left_out is_other bytes l.byte-index c.loop-byte-test.true l.last l.gap (string_bytes l.word) (folded bytes) l.invariant (ap not (sym c.is_ascii_alphanumeric.ensures.value ∙ w.if-is_ascii_alphanumeric.false)))
    ]

pub returns : goal.returns
returns c =
    let l = c.loop-byte in
    stays_past is_other c.as_bytes-bytes.result.now l.byte-index l.last l.gap (string_bytes l.word) (folded c.as_bytes-bytes.result.now) c.loop-byte-test.false l.invariant
    ∙ ap folded c.as_bytes-bytes.ensures.value
