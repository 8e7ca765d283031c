use Rattle.std.proofs.Common.{◌∙◌, refl, sym}
use Rattle.std.specs.Prelude.{string_bytes}
use Rattle.csv.specs.Records.{fields_of}
use Rattle.row_fields.proofs.WordLemmas.{words_divided, words_past, words_within}
use Rattle.row_fields.proofs.dates.date_words.Goals as goal
use Rattle.row_fields.proofs.dates.date_words.Goals.{then-is_divider+in_ok-end_word, else-is_divider+in_ok-push_small}

pub loop-byte-preserved : goal.loop-byte-preserved
loop-byte-preserved c =
    let bytes = c.as_bytes-bytes.result.now in
    elim c.if-is_divider.branch [
      | then-is_divider+in_ok-end_word w ↦
          rw (w.words-is, w.word-is, w.in_ok-end_word.ensures.words, w.in_ok-end_word.ensures.cleared)
          (words_divided bytes c.loop-byte.byte-index c.loop-byte-test.true (fields_of c.loop-byte.words) (string_bytes c.loop-byte.word) c.loop-byte.invariant (sym c.is_divider.ensures ∙ w.if-is_divider.true))
      | else-is_divider+in_ok-push_small w ↦
          rw (w.words-is, w.word-is, w.in_ok-push_small.ensures)
          (words_within bytes c.loop-byte.byte-index c.loop-byte-test.true (fields_of c.loop-byte.words) (string_bytes c.loop-byte.word) c.loop-byte.invariant (sym c.is_divider.ensures ∙ w.if-is_divider.false))
    ]

pub returns : goal.returns
returns c =
    let bytes = c.as_bytes-bytes.result.now in
    c.in_ok-end_word-2.ensures.words
    ∙ (words_past bytes c.loop-byte.byte-index (fields_of c.loop-byte.words) (string_bytes c.loop-byte.word) c.loop-byte-test.false c.loop-byte.invariant
    ∙ rw c.as_bytes-bytes.ensures.value refl)
