use Rattle.std.proofs.Common.{◌≤◌, ◌++◌, ◌∙◌, ap, sym, length, arith}
use Rattle.csv.specs.Records.{fields_of}
use Rattle.csv.specs.Writing.{default_writer, field_text, row_body}
use Rattle.row_forms.proofs.LineLemmas.RowTextLemmas.{field_there, fields_first, fields_more, fields_none, fields_past}
use Rattle.row_forms.proofs.line.row_text.push_fields.Goals as goal
use Rattle.row_forms.proofs.line.row_text.push_fields.Goals.{in-Some+in_ok-push_field_text, in_default, in-Some-get+in_ok-push+in_ok-push_field_text-2, in_default-get}

pub loop-i-init : goal.loop-i-init
loop-i-init c =
    let fields = fields_of c.args.fields.now in
    let before = c.args.text.now.items in
    elim c.match-get.branch [
      | in-Some+in_ok-push_field_text w ↦
          fields_first fields w.in-Some.first.now c.match-get.text.items before (sym w.in-Some.ensures.value) (ap (λ t. t.items) w.text-is ∙ w.in_ok-push_field_text.ensures ∙ ap (λ f. before ++ field_text default_writer f) w.as_bytes.ensures.value)
      | in_default w ↦ rw w.text-is (fields_none fields before (sym w.in_default.ensures.value))
    ]

pub loop-i-preserved : goal.loop-i-preserved
loop-i-preserved c =
    let fields = fields_of c.args.fields.now in
    let all = c.args.text.now.items ++ row_body default_writer fields in
    elim c.match-get-2.branch [
      | in-Some-get+in_ok-push+in_ok-push_field_text-2 w ↦
          let comma = w.push.new.self.items in
          fields_more fields c.loop-i.i w.in-Some-get.field.now c.loop-i.text.items comma c.match-get-2.text.items all (sym w.in-Some-get.ensures.value) c.loop-i.invariant w.in_ok-push.ensures.items
          (ap (λ t. t.items) w.text-is ∙ w.in_ok-push_field_text-2.ensures ∙ ap (λ f. comma ++ field_text default_writer f) w.as_bytes-in-Some-get.ensures.value)
      | in_default-get w ↦ absurd (field_there fields c.loop-i.i (omega arith) (sym w.in_default-get.ensures.value))
    ]

pub returns : goal.returns
returns c =
    let past : length (fields_of c.args.fields.now) ≤ c.loop-i.i = omega arith in
    fields_past (fields_of c.args.fields.now) c.loop-i.i c.loop-i.text.items (c.args.text.now.items ++ row_body default_writer (fields_of c.args.fields.now)) past c.loop-i.invariant
