-- The words for the crates above, from one place.
pub use Rattle.desk_program.specs.Inside.Ask.{AnswersInPart, AnswersQuestions}
pub use Rattle.desk_program.specs.AsOf.{HadCome, IsKeptAt, WhatComesLaterChangesNothing}
pub use Rattle.desk_program.specs.Cases.{cases_text}
pub use Rattle.desk_program.specs.Change.{IsChanged, RefusesFile, TakesFile}
unfoldable pub use Rattle.desk_program.specs.Changed.{changes_between}
pub use Rattle.desk_program.specs.ChangedText.{changes_text}
pub use Rattle.desk_program.specs.Correction.{IsListed, IsOnlyListed, correction_text, shown_at}
pub use Rattle.desk_program.specs.Desk.{HasNoDocket, IsPromisedDocket, IsUnopened, KeepsDocket, answers_at, disk_under, held_at, leaves_at, outcome_at, stamp_under, standing_at}
pub use Rattle.desk_program.specs.Faults.{desk_status}
pub use Rattle.desk_program.specs.Log.{log_text}
pub use Rattle.desk_program.specs.LogLast.{last_log_text}
pub use Rattle.desk_program.specs.Remembered.{GoesOn, GoesOnAs, HasCorrections, Remembers, end_in, held_in, holds_back, standing_in}
pub use Rattle.desk_program.specs.RowCorrection.{CorrectsRow, IsCorrected, LeavesRow}
pub use Rattle.desk_program.specs.Rows.{written_rows}
pub use Rattle.desk_program.specs.Shown.{lines_shown}
pub use Rattle.desk_program.specs.Struck.{struck_text}
pub use Rattle.desk_program.specs.TimeOrder.{earlier_in, earlier_line}
pub use Rattle.desk_program.specs.Together.{IsAtFault, IsDocketAllOrNone, KeepsTogether, RefusesLines, SaysWhatIsKept, StopsList, faults_in, line_faults_text, stop_of, stopped_text}
pub use Rattle.desk_program.specs.Trial.{IsTried, IsTriedInPart}
