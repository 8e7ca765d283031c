use Rattle.std.proofs.Common.{◌∙◌, ℕ, List, ap, sym, arith}
use Rattle.std.specs.Str.{bytes_eq}
use Rattle.csv.specs.Records.{fields_of}
use Rattle.row_written.proofs.RowLemmas.{index_later, index_past, index_there}
use Rattle.row_written.proofs.headings.index_of.Goals as goal

pub returns-then-eq : goal.returns-then-eq
returns-then-eq c = index_there (fields_of c.args.names.now) c.args.name.now c.loop-i.i c.loop-i.invariant (omega arith) (ap (λ (w : List ℕ). bytes_eq w c.args.name.now) (sym c.word_at.ensures) ∙ sym c.eq.ensures ∙ c.if-eq.true)

pub loop-i-preserved : goal.loop-i-preserved
loop-i-preserved c = index_later (fields_of c.args.names.now) c.args.name.now c.loop-i.i c.loop-i.invariant (omega arith) (ap (λ (w : List ℕ). bytes_eq w c.args.name.now) (sym c.word_at.ensures) ∙ sym c.eq.ensures ∙ c.if-eq.false)

pub returns : goal.returns
returns c = c.len-count.ensures ∙ index_past (fields_of c.args.names.now) c.args.name.now c.loop-i.i c.loop-i.invariant (omega arith) (omega arith)
