use Rattle.std.proofs.Common.{◌∙◌, ◌+◌, ◌++◌, ◌∷◌, ◌<◌, [], ℕ, List, drop, length, ap, arith}
use Rattle.csv.specs.Records.{fields_of}
use Rattle.row_written.specs.Cases.{with_one}
use Rattle.row_written.specs.Headings.{word_at}
use Rattle.row_written.proofs.RowLemmas.{found_more, next_word}
use Rattle.row_written.proofs.cases.with_one.Goals as goal

pub loop-after-preserved : goal.loop-after-preserved
loop-after-preserved c =
    let fields = fields_of c.args.fields.now in
    let place = c.loop-after.after in
    let there : place < length fields = omega arith in
    let before = fields_of c.loop-after.row in
    found_more before (word_at fields place ∷ []) (fields_of c.push_field-in-loop-after.new.self) (drop place fields) (drop (place + 1) fields) (with_one c.args.place fields)
    c.loop-after.invariant (next_word fields place there)
    (c.in_ok-push_field-2.ensures.fields ∙ ap (λ (w : List ℕ). before ++ w ∷ []) c.word_at.ensures)
