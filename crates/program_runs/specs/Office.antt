-- What a run of the office makes of its input.
use Rattle.std.specs.Prelude.{◌≡◌, ◌≢◌, ⊤, ℕ, Bool, true, false, List, Option, Result, Ok, Err}
use Rattle.std.specs.Io.KnownBytes.{Appends}
use Rattle.court_file_text.specs.declared.fault.CourtFault.{CourtFault}
use Rattle.court_days.specs.Words.{CourtFile, court_in, file_of}
use Rattle.court_file_text.specs.declared.fault.CourtFault.TheVariants as court
use Rattle.row_forms.specs.declared.fault.RowCause.{RowCause}
use Rattle.row_forms.specs.declared.row.Row.{Row as RowOf}
use Rattle.row_forms.specs.Words.{CourtNames, rows_read}
use Rattle.program_runs.specs.declared.checking.CheckedInput.{CheckedInput}
use Rattle.program_runs.specs.declared.fault.OfficeFault.{OfficeFault}
use Rattle.program_runs.specs.declared.fault.OfficeFault.TheVariants.{Court, Row, ReadFault, WriteFault, OutOfMemory}
use Rattle.program_runs.specs.Division.{court_part, rows_part}
use Rattle.program_runs.specs.Fault.{IsToldAs}
use Rattle.program_streams.specs.Words.{AppendsFront}

infixl 10 ◌>>=◌
abbrev pub ◌>>=◌ : {A B : Type 0} → Result A OfficeFault → (A → Result B OfficeFault) → Result B OfficeFault
(Ok x) >>= more = more x
(Err fault) >>= more = Err fault

-- a reading whose faults are faults of the office
abbrev pub by_office : {A E : Type 0} → (E → OfficeFault) → Result A E → Result A OfficeFault
by_office fault_of (Ok x) = Ok x
by_office fault_of (Err e) = Err (fault_of e)

-- the court's file and the rows after it
pub record Input : Type 0 where
  pub file : CourtFile
  pub rows : List RowOf

-- the names that rows may have in the court of a file
abbrev pub names_in : CourtFile → CourtNames
names_in file = record { judges = file.judges; rooms = file.rooms; periods = file.periods.texts; coded = true; shorts = file.periods.shorts }

-- what an input says, or its first fault, a court's before any row's
unfoldable pub input_of : ℕ → List ℕ → Result Input OfficeFault
input_of clerks bytes = do
  file ← by_office Court (court_in (court_part bytes))
  rows ← by_office (λ fault. Row fault.0 fault.1) (rows_read clerks (names_in file) (rows_part bytes))
  Ok (record { file = file; rows = rows })

-- what reading the court's file answers: the court or the fault that is defined, unless memory ran out
abbrev pub AnswersCourt : {X : Type 0} → (X → CourtFile) → Result X OfficeFault → Result CourtFile CourtFault → Type 0
AnswersCourt view (Ok court) defined = defined ≡ Ok (view court)
AnswersCourt view (Err (Court fault)) defined = (defined ≡ Err fault) × (fault ≢ court.OutOfMemory)
AnswersCourt view (Err (Row number cause)) defined = ⊥
AnswersCourt view (Err ReadFault) defined = ⊥
AnswersCourt view (Err WriteFault) defined = ⊥
AnswersCourt view (Err OutOfMemory) defined = ⊤

-- what reading the rows answers: the rows or the fault that is defined, unless memory ran out
abbrev pub AnswersRowsOf : {X : Type 0} → (X → List RowOf) → Result X OfficeFault → Result (List RowOf) (ℕ × RowCause) → Type 0
AnswersRowsOf view (Ok rows) defined = defined ≡ Ok (view rows)
AnswersRowsOf view (Err (Court fault)) defined = ⊥
AnswersRowsOf view (Err (Row number cause)) defined = defined ≡ Err (number, cause)
AnswersRowsOf view (Err ReadFault) defined = ⊥
AnswersRowsOf view (Err WriteFault) defined = ⊥
AnswersRowsOf view (Err OutOfMemory) defined = ⊤

-- what is made of an input fits it, or is the fault that the input has, unless memory ran out
abbrev pub AnswersInput : {X : Type 0} → (Input → X → Type 0) → Result X OfficeFault → Result Input OfficeFault → Type 0
AnswersInput Fits (Ok x) (Ok input) = Fits input x
AnswersInput Fits (Ok x) (Err fault) = ⊥
AnswersInput Fits (Err (Court fault)) said = (said ≡ Err (Court fault)) × (fault ≢ court.OutOfMemory)
AnswersInput Fits (Err (Row number cause)) said = said ≡ Err (Row number cause)
AnswersInput Fits (Err ReadFault) said = ⊥
AnswersInput Fits (Err WriteFault) said = ⊥
AnswersInput Fits (Err OutOfMemory) said = ⊤

-- a court and rows are those of the input
pub record IsChecked (input : Input) (checked : CheckedInput) : Type 0 where
  pub court : file_of checked.court ≡ input.file
  pub rows : checked.rows.items ≡ input.rows

-- By its answer, a run has written the whole of a text that is one of the input or, where a write failed, a beginning
-- of it; or what it read has the fault that the answer names. Where reading failed or memory ran out, the answer says
-- nothing of them.
abbrev pub IsRunBy : (Input → List ℕ → Type 0) → Option (List ℕ) → Option (List ℕ) → Result (Unit {0}) OfficeFault → Result Input OfficeFault → Type 0
IsRunBy IsText old new (Ok done) (Ok input) = (text : List ℕ) × IsText input text × Appends old new text
IsRunBy IsText old new (Ok done) (Err fault) = ⊥
IsRunBy IsText old new (Err WriteFault) (Ok input) = (text : List ℕ) × IsText input text × AppendsFront old new text
IsRunBy IsText old new (Err WriteFault) (Err fault) = ⊥
IsRunBy IsText old new (Err (Court fault)) said = said ≡ Err (Court fault)
IsRunBy IsText old new (Err (Row number cause)) said = said ≡ Err (Row number cause)
IsRunBy IsText old new (Err ReadFault) said = ⊤
IsRunBy IsText old new (Err OutOfMemory) said = ⊤

-- the answer rests on the whole input
abbrev pub rests_on_input : {X : Type 0} → Result X OfficeFault → Bool
rests_on_input (Ok done) = true
rests_on_input (Err (Court fault)) = true
rests_on_input (Err (Row number cause)) = true
rests_on_input (Err WriteFault) = true
rests_on_input (Err ReadFault) = false
rests_on_input (Err OutOfMemory) = false

-- an input has the fault that is written with this status
pub record HasFaultTold (status : ℕ) (IsGivenErrors : List ℕ → Type 0) (said : Result Input OfficeFault) : Type 0 where
  pub fault : OfficeFault
  pub has : said ≡ Err fault
  pub told : IsToldAs fault status IsGivenErrors
