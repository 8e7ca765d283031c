use Rattle.std.proofs.Common.{◌∙◌, ◌+◌, ◌++◌, ◌∷◌, [], ◌<◌, ◌≤◌, drop, length, map, ap, arith}
use Rattle.std.specs.Prelude.{option_map}
use Rattle.std.proofs.lemmas.List.{drop_more}
use Rattle.csv.specs.Records.{fields_of}
use Rattle.row_forms.specs.Words.{names_of}
use Rattle.row_written.specs.Fault.{fault_in}
use Rattle.row_written.specs.Rows.{clear_text, column_faults, plain_in}
use Rattle.row_written.proofs.RowLemmas.{faults_next, faults_past, faults_said, found_all, found_more, plain_next, plain_past}
use Rattle.row_written.proofs.rows.plain_in.Goals as goal

pub loop-i-preserved : goal.loop-i-preserved
loop-i-preserved c =
    let names = names_of c.args.court.now in
    let fields = fields_of c.args.fields.now in
    let i = c.loop-i.i in
    let header = option_map fields_of c.args.header.now in
    let columns = c.args.columns.now in
    let text = c.args.text.now in
    let order = c.args.order in
    let there : i < length columns = omega arith in (
      found_more (fields_of c.loop-i.plain) _ (fields_of c.take_said.new.plain) (plain_in names order header text fields i (drop i columns)) (plain_in names order header text fields (i + 1) (drop (i + 1) columns)) (plain_in names order header text fields 0 columns)
          c.loop-i.invariant.0 (plain_next names order header text fields columns i _ (drop_more columns i _ there))
          (c.in_ok-take_said.ensures.plain ∙ ap (λ s. fields_of c.loop-i.plain ++ clear_text s ∷ []) c.in_ok-said.ensures),
      found_more (map fault_in c.loop-i.faults.items) _ (map fault_in c.take_said.new.faults.items) (column_faults names order header text fields i (drop i columns)) (column_faults names order header text fields (i + 1) (drop (i + 1) columns)) (column_faults names order header text fields 0 columns)
          c.loop-i.invariant.1 (faults_next names order header text fields columns i _ (drop_more columns i _ there))
          (faults_said (map fault_in c.loop-i.faults.items) (map fault_in c.take_said.new.faults.items) text _ _ _ _ _ _ _ c.in_ok-take_said.ensures.faults c.column_place-place.ensures c.value_at-value.ensures c.in_ok-said.ensures),
    )

pub returns-clause-plain : goal.returns-clause-plain
returns-clause-plain c =
    let names = names_of c.args.court.now in
    let fields = fields_of c.args.fields.now in
    let header = option_map fields_of c.args.header.now in
    let columns = c.args.columns.now in
    let past : length columns ≤ c.loop-i.i = omega arith in
    found_all (fields_of c.loop-i.plain) (plain_in names c.args.order header c.args.text.now fields c.loop-i.i (drop c.loop-i.i columns)) (plain_in names c.args.order header c.args.text.now fields 0 columns)
    c.loop-i.invariant.0 (plain_past names c.args.order header c.args.text.now fields columns c.loop-i.i past)

pub returns-clause-faults : goal.returns-clause-faults
returns-clause-faults c =
    let names = names_of c.args.court.now in
    let fields = fields_of c.args.fields.now in
    let header = option_map fields_of c.args.header.now in
    let columns = c.args.columns.now in
    let past : length columns ≤ c.loop-i.i = omega arith in
    found_all (map fault_in c.loop-i.faults.items) (column_faults names c.args.order header c.args.text.now fields c.loop-i.i (drop c.loop-i.i columns)) (column_faults names c.args.order header c.args.text.now fields 0 columns)
    c.loop-i.invariant.1 (faults_past names c.args.order header c.args.text.now fields columns c.loop-i.i past)
