-- The faults of the crates below, as those of the desk's tasks, and the statuses with which the program ends.
use Rattle.std.specs.Prelude.{◌≡◌, ℕ, List, String, string_bytes}
use Rattle.std.specs.declared.alloc.Global.{Global}
use Rattle.std.specs.declared.io.Error.{Error}
use Rattle.court_file_text.specs.declared.fault.CourtFault.TheVariants as court
use Rattle.desk_journal.specs.declared.fault.JournalFault.{JournalFault}
use Rattle.desk_journal.specs.declared.fault.JournalFault.TheVariants as journal
use Rattle.desk_session.specs.declared.fault.SessionFault.{SessionFault}
use Rattle.desk_session.specs.declared.fault.SessionFault.TheVariants as session
use Rattle.desk_entries.specs.declared.fault.HistoryFault.{HistoryFault}
use Rattle.desk_entries.specs.declared.fault.HistoryFault.TheVariants as history
use Rattle.desk_program.specs.declared.faults.beginning.BeginFault.{BeginFault}
use Rattle.desk_program.specs.declared.faults.beginning.BeginFault.TheVariants as beginning
use Rattle.desk_program.specs.declared.faults.correcting.CorrectionFault.{CorrectionFault}
use Rattle.desk_program.specs.declared.faults.correcting.CorrectionFault.TheVariants as correction
use Rattle.desk_program.specs.declared.faults.correcting.StrikingFault.{StrikingFault}
use Rattle.desk_program.specs.declared.faults.correcting.StrikingFault.TheVariants as striking
use Rattle.desk_program.specs.declared.faults.court_file.CourtFileFault.{CourtFileFault}
use Rattle.desk_program.specs.declared.faults.court_file.CourtFileFault.TheVariants as court_file
use Rattle.desk_program.specs.declared.faults.desk.DeskFault.{DeskFault}
use Rattle.desk_program.specs.declared.faults.desk.DeskFault.TheVariants as desk
use Rattle.desk_program.specs.declared.faults.file.FileFault.{FileFault}
use Rattle.desk_program.specs.declared.faults.file.FileFault.TheVariants as file
use Rattle.desk_program.specs.declared.faults.opening.OpenFault.{OpenFault}
use Rattle.desk_program.specs.declared.faults.opening.OpenFault.TheVariants as opening
use Rattle.desk_program.specs.declared.faults.output.OutputFault.{OutputFault}
use Rattle.desk_program.specs.declared.faults.output.OutputFault.TheVariants as output
use Rattle.desk_program.specs.declared.faults.together.TogetherFault.{TogetherFault}
use Rattle.desk_program.specs.declared.faults.together.TogetherFault.TheVariants as together

-- why a docket isn't opened, where its journal isn't
abbrev pub unopened_journal : JournalFault → OpenFault
unopened_journal journal.NoEntries = opening.NoJournal
unopened_journal journal.OutOfMemory = opening.OutOfMemory
unopened_journal fault = opening.Journal fault

-- why one that was left isn't resumed
abbrev pub unresumed_journal : JournalFault → OpenFault
unresumed_journal journal.Changed = opening.Replaced
unresumed_journal fault = unopened_journal fault

-- and where its entries make none
abbrev pub history_fault : HistoryFault → OpenFault
history_fault history.NoCourt = opening.NoJournal
history_fault (history.Court number cause) = opening.KeptCourt number cause
history_fault (history.Other number) = opening.Other number
history_fault (history.Strike number) = opening.BadStrike number
history_fault history.OutOfMemory = opening.OutOfMemory

-- why a docket isn't begun, where its journal isn't
abbrev pub unbegun_journal : JournalFault → BeginFault
unbegun_journal journal.Taken = beginning.Taken
unbegun_journal journal.OutOfMemory = beginning.OutOfMemory
unbegun_journal fault = beginning.Journal fault

-- why a correction isn't taken, where the journal isn't written
abbrev pub untaken_journal : JournalFault → CorrectionFault
untaken_journal journal.OutOfMemory = correction.OutOfMemory
untaken_journal fault = correction.Journal fault

-- the fault has the file's name and the error of the call on it
abbrev pub IsNamed : (name : List ℕ) → Error → FileFault → Type 0
IsNamed name error fault = (held : String Global) × (string_bytes held ≡ name) × (fault ≡ file.Named held error)

-- The statuses: 2 for a court's file, 3 for rows, and for one that can't be struck, 4 for files and streams, 5 for want of memory, 7 for a
-- correction that isn't taken since answers would differ, 8 for rows that had faults or were held back among others that were taken, 10 for
-- the journal.
abbrev pub journal_status : JournalFault → ℕ
journal_status journal.OutOfMemory = 5
journal_status _ = 10

abbrev pub session_status : SessionFault → ℕ
session_status (session.Journal fault) = 10
session_status session.Read = 4
session_status session.Write = 4
session_status session.LongLine = 4
session_status session.Unfinished = 4
session_status session.OutOfMemory = 5

abbrev pub court_file_status : CourtFileFault → ℕ
court_file_status (court_file.Court court.OutOfMemory) = 5
court_file_status (court_file.Court _) = 2
court_file_status (court_file.Divided line) = 2
court_file_status court_file.OutOfMemory = 5

abbrev pub open_status : OpenFault → ℕ
open_status opening.NoJournal = 10
open_status (opening.KeptCourt number cause) = 10
open_status (opening.Other number) = 10
open_status (opening.BadStrike number) = 10
open_status opening.Replaced = 10
open_status (opening.Journal fault) = journal_status fault
open_status opening.OutOfMemory = 5

abbrev pub begin_status : BeginFault → ℕ
begin_status (beginning.CourtFile fault) = court_file_status fault
begin_status beginning.Taken = 10
begin_status (beginning.Journal fault) = journal_status fault
begin_status beginning.OutOfMemory = 5

abbrev pub correction_status : CorrectionFault → ℕ
correction_status (correction.CourtFile fault) = court_file_status fault
correction_status (correction.Differs count) = 7
correction_status (correction.Journal fault) = journal_status fault
correction_status correction.Write = 4
correction_status correction.OutOfMemory = 5

abbrev pub striking_status : StrikingFault → ℕ
striking_status (striking.Unstruck fault) = 3
striking_status (striking.Untaken fault) = correction_status fault

abbrev pub together_status : TogetherFault → ℕ
together_status (together.Faults count) = 3
together_status (together.Refused line) = 3
together_status (together.Held line) = 3
together_status (together.Session fault) = session_status fault
together_status (together.Unkept fault) = session_status fault
together_status together.OutOfMemory = 5

abbrev pub file_status : FileFault → ℕ
file_status file.Busy = 10
file_status file.Foreign = 10
file_status (file.Named name error) = 4
file_status file.OutOfMemory = 5

abbrev pub output_status : OutputFault → ℕ
output_status output.Write = 4
output_status output.OutOfMemory = 5

abbrev pub desk_status : DeskFault → ℕ
desk_status (desk.Open fault) = open_status fault
desk_status (desk.CourtFile fault) = court_file_status fault
desk_status (desk.Begin fault) = begin_status fault
desk_status (desk.Striking fault) = striking_status fault
desk_status (desk.Change fault) = correction_status fault
desk_status (desk.Together fault) = together_status fault
desk_status (desk.Session fault) = session_status fault
desk_status (desk.Unkept fault) = session_status fault
desk_status (desk.Faulty tally) = 8
desk_status desk.LongInput = 4
desk_status (desk.File fault) = file_status fault
desk_status (desk.Output fault) = output_status fault
desk_status desk.OutOfMemory = 5
