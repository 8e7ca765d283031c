use Rattle.std.proofs.Common.{sym}
use Rattle.csv.specs.Records.{fields_of}
use Rattle.desk_register.proofs.FieldLemmas.{field_pushed, none_pushed}
use Rattle.desk_register.proofs.case_line.push_fields.Goals as goal
use Rattle.desk_register.proofs.case_line.push_fields.Goals.{in-None, in-Some+in_ok-push_field-in-Some}

pub loop-place-preserved : goal.loop-place-preserved
loop-place-preserved c =
    let fields = fields_of c.args.fields.now in
    let before = fields_of c.loop-place.row in
    elim c.match-get.branch [
      | in-Some+in_ok-push_field-in-Some w ↦
          rw w.row-is (field_pushed fields before (fields_of w.push_field.new.self) _ c.loop-place.place c.args.to w.in-Some.field.now c.loop-place-test.true (sym w.in-Some.ensures.value) w.in_ok-push_field-in-Some.ensures.fields c.loop-place.invariant)
      | in-None w ↦ rw w.row-is (none_pushed fields before _ c.loop-place.place c.args.to (sym w.in-None.ensures.value) c.loop-place.invariant)
    ]
