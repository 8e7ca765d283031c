use Rattle.std.proofs.Common.{◌∙◌, ap, sym}
use Rattle.std.specs.Prelude.{string_bytes}
use Rattle.row_fields.specs.Letters.{bare, is_slack}
use Rattle.row_fields.proofs.LetterLemmas.{left_out, stays, stays_past}
use Rattle.row_fields.proofs.letters.bare.Goals as goal
use Rattle.row_fields.proofs.letters.bare.Goals.{then-is_slack, else-is_slack+in_ok-push_staying}

pub loop-byte-preserved : goal.loop-byte-preserved
loop-byte-preserved c =
    let bytes = c.as_bytes-bytes.result.now in
    let l = c.loop-byte in
    elim c.if-is_slack.branch [
      | then-is_slack w ↦
          rw (w.word-is, w.last-is, w.gap-is)
          (left_out is_slack bytes l.byte-index c.loop-byte-test.true l.last l.gap (string_bytes l.word) (bare bytes) l.invariant (sym c.is_slack.ensures ∙ w.if-is_slack.true))
      | else-is_slack+in_ok-push_staying w ↦
          rw (w.word-is, w.last-is, w.gap-is, w.in_ok-push_staying.ensures)
          (stays is_slack bytes l.byte-index c.loop-byte-test.true l.last l.gap (string_bytes l.word) (bare bytes) l.invariant (sym c.is_slack.ensures ∙ w.if-is_slack.false))
    ]

pub returns : goal.returns
returns c =
    let l = c.loop-byte in
    stays_past is_slack c.as_bytes-bytes.result.now l.byte-index l.last l.gap (string_bytes l.word) (bare c.as_bytes-bytes.result.now) c.loop-byte-test.false l.invariant
    ∙ ap bare c.as_bytes-bytes.ensures.value
