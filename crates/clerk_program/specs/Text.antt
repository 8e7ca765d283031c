-- What the clerk's program writes of a run: the text of answers, sheets and calendars.
use Rattle.std.specs.Prelude.{◌≡◌, ◌≢◌, ℕ, List, Option, Result}
use Rattle.court_days.specs.Words.{CourtView, file_of}
use Rattle.row_forms.specs.declared.row.Row.{Row}
use Rattle.office_texts.specs.Run.Words.{run_text}
use Rattle.program_runs.specs.declared.fault.OfficeFault.{OfficeFault}
use Rattle.program_runs.specs.Words.{Input, IsRunBy}
use Rattle.clerk_workers.specs.Shared.Words.{IsSharedText}

-- the text of a run of rows: one clerk does them one after another, and several share an office whose journal takes so
-- many entries
pub record IsTextBy (clerks journal : ℕ) (court : CourtView) (rows : List Row) (text : List ℕ) : Type 0 where
  pub by_one : clerks ≡ 1 → text ≡ run_text court rows
  pub by_several : clerks ≢ 1 → IsSharedText court clerks journal rows text

-- The text of the run of an input, in the court whose file it has. The file names the court's zone, and all values
-- of a zone that it may stand for have the same offsets.
pub record IsTextOf (clerks journal : ℕ) (input : Input) (text : List ℕ) : Type 0 where
  pub court : CourtView
  pub is_court : file_of court ≡ input.file
  pub is_text : IsTextBy clerks journal court input.rows text

-- the run of an office of that number of clerks, with that limit of its journal: its text is that of the answers, sheets
-- and calendars
abbrev pub IsRun : (clerks journal : ℕ) → Option (List ℕ) → Option (List ℕ) → Result (Unit {0}) OfficeFault → Result Input OfficeFault → Type 0
IsRun clerks journal old new result said = IsRunBy (IsTextOf clerks journal) old new result said
