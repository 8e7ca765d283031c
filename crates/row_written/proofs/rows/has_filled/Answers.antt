use Rattle.std.proofs.Common.{◌∙◌, ◌==◌, ℕ, List, length, not, ap, sym, arith}
use Rattle.std.specs.List.{list_any}
use Rattle.csv.specs.Records.{fields_of}
use Rattle.row_written.specs.Headings.{is_filled, word_at}
use Rattle.row_written.proofs.RowLemmas.{filled_later, filled_test, filled_there}
use Rattle.row_written.proofs.rows.has_filled.Goals as goal

pub returns-then-not-is_empty : goal.returns-then-not-is_empty
returns-then-not-is_empty c = filled_there (fields_of c.args.fields.now) c.loop-i.i (list_any is_filled (fields_of c.args.fields.now)) c.loop-i.invariant (omega arith) (filled_test (word_at (fields_of c.args.fields.now) c.loop-i.i) ∙ ap (λ (w : List ℕ). not (length w == 0)) (sym c.word_at.ensures) ∙ ap not (sym c.is_empty.ensures ∙ c.if-not-is_empty.true))

pub loop-i-preserved : goal.loop-i-preserved
loop-i-preserved c = filled_later (fields_of c.args.fields.now) c.loop-i.i (list_any is_filled (fields_of c.args.fields.now)) c.loop-i.invariant (omega arith) (filled_test (word_at (fields_of c.args.fields.now) c.loop-i.i) ∙ ap (λ (w : List ℕ). not (length w == 0)) (sym c.word_at.ensures) ∙ ap not (sym c.is_empty.ensures ∙ c.if-not-is_empty.false))
