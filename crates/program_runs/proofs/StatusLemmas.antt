-- A fault of a run ends with none of the statuses of a whole run, of bad words and of what isn't there.
use Rattle.std.proofs.Common.{◌<◌, ◌⊎◌, ℕ, List, inl, inr, arith}
use Rattle.court_file_text.specs.declared.fault.CourtFault.TheVariants as court
use Rattle.program_runs.specs.declared.fault.OfficeFault.{OfficeFault}
use Rattle.program_runs.specs.declared.fault.OfficeFault.TheVariants.{Court, Row, ReadFault, WriteFault, OutOfMemory}
use Rattle.program_runs.specs.Fault.{IsTold, IsToldAs, status_number}

fault_is_between : (fault : OfficeFault) → (1 < status_number fault) × (status_number fault < 6)
fault_is_between (Court court.NotToml) = (omega arith, omega arith)
fault_is_between (Court (court.Missing key)) = (omega arith, omega arith)
fault_is_between (Court (court.WrongKind key)) = (omega arith, omega arith)
fault_is_between (Court (court.BadDate text)) = (omega arith, omega arith)
fault_is_between (Court court.BadZone) = (omega arith, omega arith)
fault_is_between (Court court.BadHours) = (omega arith, omega arith)
fault_is_between (Court court.BadSpan) = (omega arith, omega arith)
fault_is_between (Court (court.BadName text)) = (omega arith, omega arith)
fault_is_between (Court (court.TwiceNamed text)) = (omega arith, omega arith)
fault_is_between (Court (court.TooMany key)) = (omega arith, omega arith)
fault_is_between (Court court.OutOfMemory) = (omega arith, omega arith)
fault_is_between (Row number cause) = (omega arith, omega arith)
fault_is_between ReadFault = (omega arith, omega arith)
fault_is_between WriteFault = (omega arith, omega arith)
fault_is_between OutOfMemory = (omega arith, omega arith)

-- a fault is written as what it is, or as want of memory
pub told_as : (fault : OfficeFault) (status : ℕ) (G : List ℕ → Type 0) → IsTold fault status G → IsToldAs fault status G ⊎ IsToldAs OutOfMemory status G
told_as (Court fault) status G told = told
told_as (Row number cause) status G told = told
told_as ReadFault status G told = inl told
told_as WriteFault status G told = inl told
told_as OutOfMemory status G told = inl told

-- whichever is written of it
told_is_between : (fault : OfficeFault) (status : ℕ) (G : List ℕ → Type 0) → IsTold fault status G → (1 < status) × (status < 6)
told_is_between fault status G told = elim (told_as fault status G told) [
  | inl as_it_is ↦ let (past, below) = fault_is_between fault in (omega (arith, as_it_is.numbered, past), omega (arith, as_it_is.numbered, below))
  | inr memory ↦ (omega (arith, memory.numbered), omega (arith, memory.numbered))
]

pub told_is_past_1 : (fault : OfficeFault) (status : ℕ) (G : List ℕ → Type 0) → IsTold fault status G → 1 < status
told_is_past_1 fault status G told = (told_is_between fault status G told).0

pub told_is_below_6 : (fault : OfficeFault) (status : ℕ) (G : List ℕ → Type 0) → IsTold fault status G → status < 6
told_is_below_6 fault status G told = (told_is_between fault status G told).1
