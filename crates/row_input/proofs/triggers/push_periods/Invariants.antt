use Rattle.std.proofs.Common.{◌≡◌, drop}
use Rattle.std.specs.Prelude.{option_map}
use Rattle.csv.specs.Records.{fields_of}
use Rattle.row_forms.specs.Words.{names_of}
use Rattle.row_input.specs.LineRows.{rows_said}
use Rattle.row_input.specs.Triggers.{with_periods}
use Rattle.row_input.proofs.triggers.push_periods.Given as goal

-- the line so far, with the rows of the periods that are left, is the line with those of all
abbrev pub invariant-loop-i : goal.invariant-loop-i
invariant-loop-i l =
    let header = option_map fields_of l.header in
    with_periods l.clerks (names_of l.court) l.court.periods.triggers l.order header l.text (fields_of l.fields) (rows_said l.said) (drop l.i (fields_of l.periods))
    ≡ with_periods l.clerks (names_of l.court) l.court.periods.triggers l.order header l.text (fields_of l.fields) (rows_said l.fn.said) (fields_of l.periods)
