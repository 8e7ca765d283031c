-- What is said of a deadline by the sheet of the case in which it would start.
use Rattle.std.specs.Prelude.{ℕ, ℤ, List, [], ◌++◌, Option, Some}
use Rattle.court_days.specs.Words.{CourtView, DaysView}
use Rattle.rule_periods.specs.Words.{DeadlineRowView, shown_of}
use Rattle.docket_rows.specs.declared.view.View.{View}
use Rattle.docket_rows.specs.declared.view.View.TheVariants as view
use Rattle.reason_notes.specs.Warnings.Words.{start_notes}
use Rattle.desk_numbers.specs.declared.moved.Moved.{Moved}
use Rattle.desk_warnings.specs.Warnings.{among}

-- nothing where there is no sheet, or the period can't start
abbrev pub on_view : CourtView → List Moved → DaysView → (today : Option ℤ) → View → Option DeadlineRowView → List ℕ
on_view court moved days today (view.Sheet sheet) (Some row) =
    start_notes days court.clock sheet.filed today row (shown_of days court.clock row) ++ among moved sheet.case row sheet.deadlines
on_view court moved days today v row = []
