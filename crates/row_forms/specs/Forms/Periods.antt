-- A period and its event, as `start` and `compute` have them.
use Rattle.std.specs.Prelude.{ℕ, ◌+◌, List, Result, Ok}
use Rattle.row_forms.specs.declared.fault.RowCause.{RowCause}
use Rattle.row_forms.specs.declared.forms.periods.Measured.{Measured}
use Rattle.row_forms.specs.Columns.{◌>>=◌, column, in_column, day_in}
use Rattle.row_forms.specs.CourtNames.{CourtNames}
use Rattle.row_forms.specs.Fields.Choices.{kind_if_given}
use Rattle.row_forms.specs.Fields.Period.{period_in}
use Rattle.row_forms.specs.Fields.Times.{day_if_given, minute_or_midnight}

-- columns `PERIOD,DATE,TIME,SECOND,KIND`, the first of which has this number
unfoldable pub measured_from : CourtNames → List (List ℕ) → ℕ → Result Measured RowCause
measured_from names fields n = do
  period ← in_column n (period_in names (column fields n))
  day ← day_in fields (n + 1)
  minute ← in_column (n + 2) (minute_or_midnight (column fields (n + 2)))
  second ← in_column (n + 3) (day_if_given (column fields (n + 3)))
  service ← in_column (n + 4) (kind_if_given (column fields (n + 4)))
  Ok (record { period = period; event = record { day = day; minute = minute }; second = second; service = service })
