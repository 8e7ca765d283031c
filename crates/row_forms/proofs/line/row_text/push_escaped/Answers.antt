use Rattle.std.proofs.Common.{◌++◌, ap, ◌∙◌, ◌∷◌, [], get_or}
use Rattle.csv.specs.Writing.{default_writer, escaped}
use Rattle.row_forms.proofs.LineLemmas.RowTextLemmas.{escaped_past, escaped_plain, escaped_quote}
use Rattle.row_forms.proofs.line.row_text.push_escaped.Goals as goal
use Rattle.row_forms.proofs.line.row_text.push_escaped.Goals.{then-byte-eq34+in_ok-push, else-byte-eq34}

pub loop-byte-preserved : goal.loop-byte-preserved
loop-byte-preserved c =
    let field = c.args.field.now in
    let all = c.args.text.now.items ++ escaped default_writer field in
    let last = c.push-in-loop-byte.new.self.items in
    elim c.if-byte-eq34.branch [
      | then-byte-eq34+in_ok-push w ↦
          escaped_quote field c.loop-byte.byte-index c.loop-byte-test.true c.loop-byte.text.items all c.loop-byte.invariant c.if-byte-eq34.text.items last w.if-byte-eq34.true (ap (λ t. t.items) w.text-is ∙ w.in_ok-push.ensures.items) c.in_ok-push-2.ensures.items
      | else-byte-eq34 w ↦
          escaped_plain field c.loop-byte.byte-index c.loop-byte-test.true c.loop-byte.text.items all c.loop-byte.invariant last w.if-byte-eq34.false (c.in_ok-push-2.ensures.items ∙ ap (λ t. t.items ++ (get_or field c.loop-byte.byte-index 0 ∷ [])) w.text-is)
    ]

pub returns : goal.returns
returns c = escaped_past c.args.field.now c.loop-byte.byte-index c.loop-byte.text.items (c.args.text.now.items ++ escaped default_writer c.args.field.now) c.loop-byte-test.false c.loop-byte.invariant
