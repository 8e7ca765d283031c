use Rattle.std.proofs.Common.{◌∙◌, ◌≤◌, ◌<◌, ap, length, arith, ℕ, List}
use Rattle.std.specs.Prelude.{option_map}
use Rattle.csv.specs.Records.{fields_of}
use Rattle.row_forms.specs.Words.{names_of}
use Rattle.row_input.specs.LineRows.{rows_said, with_row}
use Rattle.row_input.specs.Triggers.{period_row, with_periods}
use Rattle.row_input.proofs.TriggerLemmas.{periods_all, periods_more}
use Rattle.row_input.proofs.triggers.push_periods.Goals as goal

pub loop-i-preserved : goal.loop-i-preserved
loop-i-preserved c =
    let names = names_of c.args.court.now in
    let own = c.args.court.now.periods.triggers in
    let header = option_map fields_of c.args.header.now in
    let fields = fields_of c.args.fields.now in
    let periods = fields_of c.args.periods.now in
    let text = c.args.text.now in
    let said = rows_said c.loop-i.said in
    let there : c.loop-i.i < length periods = omega arith in
    periods_more c.args.clerks names own c.args.order header text fields periods c.loop-i.i said _ (rows_said c.take.new.self) there c.loop-i.invariant
    (c.in_ok-take.ensures
    ∙ ap (with_row said) c.in_ok-row.ensures
    ∙ ap (λ (p : List ℕ). with_row said (period_row c.args.clerks names own c.args.order header text fields p)) c.word_at.ensures)

pub returns : goal.returns
returns c =
    let names = names_of c.args.court.now in
    let own = c.args.court.now.periods.triggers in
    let header = option_map fields_of c.args.header.now in
    let fields = fields_of c.args.fields.now in
    let periods = fields_of c.args.periods.now in
    let past : length periods ≤ c.loop-i.i = omega arith in
    periods_all c.args.clerks names own c.args.order header c.args.text.now fields periods c.loop-i.i (rows_said c.loop-i.said) _ past c.loop-i.invariant
