-- What is written of a run: each program says it of its own text.
use Rattle.std.specs.Prelude.{ℕ, List, Option, Some, None, Result, Ok, Err, IsOkAnd, String, string_bytes}
use Rattle.std.specs.declared.alloc.Global.{Global}
use Rattle.court_days.specs.Words.{file_of}
use Rattle.program_runs.specs.declared.checking.CheckedInput.{CheckedInput}
use Rattle.program_runs.specs.declared.fault.OfficeFault.{OfficeFault}
use Rattle.program_runs.specs.declared.report.Finding.{Finding}
use Rattle.program_runs.specs.declared.report.Finding.TheVariants.{Missing, Text}
use Rattle.program_runs.specs.Division.{court_part}
use Rattle.program_runs.specs.Office.{Input, IsRunBy, input_of}

-- the input whose court and rows were checked
abbrev pub input_checked : CheckedInput → Input
input_checked checked = record { file = file_of checked.court; rows = checked.rows.items }

-- what is found is a text, or a line that says what isn't there
abbrev pub IsFinding : {T : Type 0} → (bytes : T → List ℕ) → (IsText IsMissing : List ℕ → Type 0) → Finding T → Type 0
IsFinding bytes IsText IsMissing (Text text) = IsText (bytes text)
IsFinding bytes IsText IsMissing (Missing line) = IsMissing (string_bytes line)

-- of some input this line says what isn't there
abbrev pub MayMiss : (IsMissing : (file : List ℕ) → Input → List ℕ → Type 0) → (line : List ℕ) → Type 0
MayMiss IsMissing line = (file : List ℕ) × (input : Input) × IsMissing file input line

-- By its answer, a run of that number of clerks has written a text of its input or, where a write failed, a beginning of one; or
-- what is asked for isn't there in its input, as the line says; or the input has the fault that the answer names. What a text and
-- such a line are may also hang on the bytes of the court's file.
abbrev pub IsReportRun : (clerks : ℕ) → (IsText IsMissing : (file : List ℕ) → Input → List ℕ → Type 0) → (old new : Option (List ℕ)) → Result (Option (String Global)) OfficeFault → (input : List ℕ) → Type 0
IsReportRun clerks IsText IsMissing old new (Ok None) input = IsRunBy (IsText (court_part input)) old new (Ok tt) (input_of clerks input)
IsReportRun clerks IsText IsMissing old new (Ok (Some line)) input = IsOkAnd (input_of clerks input) (λ said. IsMissing (court_part input) said (string_bytes line))
IsReportRun clerks IsText IsMissing old new (Err fault) input = IsRunBy (IsText (court_part input)) old new (Err fault) (input_of clerks input)
