-- The lines and the statuses that tell of faults.
use Rattle.std.specs.Prelude.{◌≡◌, ◌⊎◌, ℕ, List, [], ◌∷◌, ◌++◌, codes}
use Rattle.std.specs.Fmt.{decimal}
use Rattle.court_file_text.specs.Words.{court_fault_text}
use Rattle.court_file_text.specs.declared.fault.CourtFault.TheVariants as court
use Rattle.row_forms.specs.Words.{cause_text}
use Rattle.program_streams.specs.declared.fault.StreamFault.{StreamFault}
use Rattle.program_streams.specs.declared.fault.StreamFault.TheVariants as stream
use Rattle.program_runs.specs.declared.fault.OfficeFault.{OfficeFault}
use Rattle.program_runs.specs.declared.fault.OfficeFault.TheVariants.{Court, Row, ReadFault, WriteFault, OutOfMemory}

-- a fault of a stream, as one of a run
abbrev pub of_stream : StreamFault → OfficeFault
of_stream stream.Read = ReadFault
of_stream stream.Write = WriteFault
of_stream stream.OutOfMemory = OutOfMemory

-- the line of a fault, without its end
abbrev pub fault_text : OfficeFault → List ℕ
fault_text (Court fault) = codes "court fault " ++ court_fault_text fault
fault_text (Row number cause) = codes "row " ++ decimal number ++ codes " fault " ++ cause_text cause
fault_text ReadFault = codes "read fault"
fault_text WriteFault = codes "write fault"
fault_text OutOfMemory = codes "out of memory"

-- the status with which the program ends: 2 for the court's file, 3 for a row, 4 for reading and writing, 5 for memory
abbrev pub status_number : OfficeFault → ℕ
status_number (Court court.OutOfMemory) = 5
status_number (Court _) = 2
status_number (Row number cause) = 3
status_number ReadFault = 4
status_number WriteFault = 4
status_number OutOfMemory = 5

-- the same line with its end, as it goes to standard error
abbrev pub told_line : OfficeFault → List ℕ
told_line fault = fault_text fault ++ 10 ∷ []

-- a fault is written: the program ends with its status, and standard error is given its line
pub record IsToldAs (fault : OfficeFault) (status : ℕ) (IsGivenErrors : List ℕ → Type 0) : Type 0 where
  pub numbered : status ≡ status_number fault
  pub line : IsGivenErrors (told_line fault)

-- a fault is written as what it is or, where there is no memory for its line, as want of memory
abbrev pub IsToldIfRoom : OfficeFault → ℕ → (List ℕ → Type 0) → Type 0
IsToldIfRoom fault status IsGivenErrors = IsToldAs fault status IsGivenErrors ⊎ IsToldAs OutOfMemory status IsGivenErrors

-- the line of a fault of the input needs memory, that of any other fault needs none
abbrev pub IsTold : OfficeFault → ℕ → (List ℕ → Type 0) → Type 0
IsTold (Court fault) status IsGivenErrors = IsToldIfRoom (Court fault) status IsGivenErrors
IsTold (Row number cause) status IsGivenErrors = IsToldIfRoom (Row number cause) status IsGivenErrors
IsTold ReadFault status IsGivenErrors = IsToldAs ReadFault status IsGivenErrors
IsTold WriteFault status IsGivenErrors = IsToldAs WriteFault status IsGivenErrors
IsTold OutOfMemory status IsGivenErrors = IsToldAs OutOfMemory status IsGivenErrors

-- the line that tells of a word of the command line that is no text
abbrev pub no_text_line : List ℕ
no_text_line = codes "error: a word of the command line is no text\n"
