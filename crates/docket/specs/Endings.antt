-- How the program ends.
use Rattle.std.specs.Prelude.{◌≡◌, ◌⊎◌, ℕ, ℤ, List, Option, None, Some, Result, Ok, Err, nat_lt, string_bytes, if◌then◌else◌}
use Rattle.court_clock.specs.Words.{ClockView, zone_view}
use Rattle.court_days.specs.Words.{CourtFile}
use Rattle.court_file_text.specs.declared.fault.CourtFault.{CourtFault}
use Rattle.court_writing.specs.declared.fault.WriteFault.{WriteFault}
use Rattle.court_writing.specs.declared.fault.WriteFault.TheVariants as write
use Rattle.program_main.specs.Texts.Words.{today_by}
use Rattle.program_runs.specs.Words.{IsTold as IsTold-input}
use Rattle.desk_program.specs.Words.{desk_status}
use Rattle.docket.specs.declared.fault.Fault.{Fault}
use Rattle.docket.specs.declared.fault.Fault.TheVariants.{Desk, Input, Missing, NotWritten, Told, Unusable, Waited}

-- where no court's file is written: 1 for the years and the hours, 2 for a text that doesn't read back
abbrev pub write_status : WriteFault → ℕ
write_status write.BadYears = 1
write_status write.BadHours = 1
write_status write.NotReadBack = 2
write_status write.OutOfMemory = 5

-- after a check of a court's file: 2 where it has faults, and 9 where it has none but something may be wrong with it
abbrev pub check_status : (faults warnings : ℕ) → ℕ
check_status faults warnings = if nat_lt 0 faults then 2 else if nat_lt 0 warnings then 9 else 0

-- a check goes by the day that is asked or, where none is and the file is a court's, by the one that its clock shows
abbrev pub IsDayUsed : (asked : Option ℤ) → Result CourtFile CourtFault → (clock_time : ℤ) → (used : Option ℤ) → Type 0
IsDayUsed (Some today) read clock_time used = used ≡ Some today
IsDayUsed None (Ok file) clock_time used = (clock : ClockView) × (zone_view clock.zone ≡ file.zone) × (used ≡ Some (today_by clock clock_time))
IsDayUsed None (Err fault) clock_time used = used ≡ None

-- The status of a fault, and what standard error is given. Where there is no memory for a line, the status may be 5.
abbrev pub IsTold : Fault → (status : ℕ) → (IsGivenErrors : List ℕ → Type 0) → Type 0
IsTold (Desk fault) status IsGivenErrors = (status ≡ desk_status fault) ⊎ (status ≡ 5)
IsTold (Input fault) status IsGivenErrors = IsTold-input fault status IsGivenErrors
IsTold (Missing line) status IsGivenErrors = (status ≡ 6) × IsGivenErrors (string_bytes line)
IsTold (Unusable line) status IsGivenErrors = (status ≡ 10) × IsGivenErrors (string_bytes line)
IsTold (Waited line) status IsGivenErrors = (status ≡ 11) × IsGivenErrors (string_bytes line)
IsTold (NotWritten fault) status IsGivenErrors = (status ≡ write_status fault) ⊎ (status ≡ 5)
IsTold (Told said) status IsGivenErrors = status ≡ said
