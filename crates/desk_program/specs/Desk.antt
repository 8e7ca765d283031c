-- A docket over a disk: what it keeps, and what a session on it promises.
use Rattle.std.specs.Prelude.{◌≡◌, ◌≢◌, ℕ, List, Option, Err}
use Rattle.sqlite_disk.specs.declared.Disk as disk
use Rattle.court_days.specs.Words.{desk_court_in}
use Rattle.desk_journal.specs.Words.{HasOpenFault, IsKept, StampView, StandsFor, disk_of, stamp_of}
use Rattle.desk_session.specs.Words.{IsPromised}
use Rattle.desk_entries.specs.declared.docketed.Docketed.{Docketed}
use Rattle.desk_register.specs.declared.standing.Standing.{Standing}
use Rattle.desk_session.specs.declared.outcome.Outcome.{Outcome}
use Rattle.desk_entries.specs.declared.fault.HistoryFault.{HistoryFault}
use Rattle.desk_entries.specs.declared.fault.HistoryFault.TheVariants as history
use Rattle.desk_entries.specs.Words.{HasDocketFault, IsDocketed, IsHistory, StandsAfter}
use Rattle.desk_warnings.specs.declared.register.HeldBack.{HeldBack}
use Rattle.desk_warnings.specs.Words.{careful_answers, careful_leaves, careful_outcome}
use Rattle.program_runs.specs.Words.{court_part}
use Rattle.desk_program.specs.declared.desk.Desk.{Desk}
use Rattle.desk_program.specs.declared.faults.court_file.CourtFileFault.{CourtFileFault}
use Rattle.desk_program.specs.declared.faults.court_file.CourtFileFault.TheVariants as court_file
use Rattle.desk_program.specs.declared.faults.opening.OpenFault.{OpenFault}
use Rattle.desk_program.specs.declared.faults.opening.OpenFault.TheVariants as opening

-- the disk under a desk
abbrev pub disk_under : {D : Type 0} → Desk D → D
disk_under desk = disk_of desk.journal

-- the stamp that entries get which are kept there
abbrev pub stamp_under : {D : Type 0} → Desk D → StampView
stamp_under desk = stamp_of desk.journal

-- what stands there: the court by which it goes, and what strikes come to
abbrev pub standing_at : {D : Type 0} → Desk D → Standing
standing_at desk = desk.setup.standing

-- what is held back of the rows that are entered there
abbrev pub held_at : {D : Type 0} → Desk D → HeldBack
held_at desk = desk.setup.held_back

-- what a line leaves there, what it is answered, and what comes of it
abbrev pub leaves_at : {D : Type 0} → Desk D → (kept : List (List ℕ)) → (line : List ℕ) → List (List ℕ)
leaves_at desk = careful_leaves (standing_at desk) (held_at desk)

abbrev pub answers_at : {D : Type 0} → Desk D → (kept : List (List ℕ)) → (line : List ℕ) → List ℕ
answers_at desk = careful_answers (standing_at desk) (held_at desk)

abbrev pub outcome_at : {D : Type 0} → Desk D → (kept : List (List ℕ)) → (line : List ℕ) → Outcome
outcome_at desk = careful_outcome (standing_at desk) (held_at desk)

-- what stands, and the docket
abbrev pub docketed_at : {D : Type 0} → Desk D → Docketed
docketed_at desk = record { standing = desk.setup.standing; register = desk.careful.register }

-- The entries are kept on the disk, and the docket is the one to which they come.
pub record KeepsDocket {D : Type 0} (g : disk.Ghosts D) (entries : List (List ℕ)) (desk : Desk D) : Type 0 where
  pub kept : IsKept g entries desk.journal
  pub docketed : IsDocketed (docketed_at desk) entries

-- the entries for which a file stands make no docket
abbrev pub HasNoDocket : (file : List ℕ) → HistoryFault → Type 0
HasNoDocket file fault = (entries : List (List ℕ)) × StandsFor file entries × HasDocketFault entries fault

-- Why the docket of a file isn't opened: its journal isn't, where the disk may have failed between these two counts of its faults; or
-- its entries make no docket; or memory ran out.
abbrev pub IsUnopened : (before after : ℕ) → (file : List ℕ) → OpenFault → Type 0
IsUnopened before after file (opening.Journal fault) = HasOpenFault before after file fault
IsUnopened before after file opening.NoJournal = HasNoDocket file history.NoCourt
IsUnopened before after file (opening.KeptCourt number cause) = HasNoDocket file (history.Court number cause)
IsUnopened before after file (opening.Other number) = HasNoDocket file (history.Other number)
IsUnopened before after file (opening.BadStrike number) = HasNoDocket file (history.Strike number)
IsUnopened before after file opening.Replaced = ⊥
IsUnopened before after file opening.OutOfMemory = Unit {0}

-- What a session promises of a docket, however it ends: what `IsPromised` says of its lines, each of which leaves its row
-- with its answer, or is held back; and after whatever a crash leaves the same stands, and it is a history if the entries before were,
-- so that the next opening takes it.
pub record IsPromisedDocket (under : Standing) (held : HeldBack) (kept lines : List (List ℕ)) (before after : Option (List ℕ)) (HasWritten : Type 0) (MayLeave : List ℕ → Type 0) : Type 0 where
  pub promised : IsPromised (careful_leaves under held) (careful_answers under held) kept lines before after HasWritten MayLeave
  pub opens : (file : List ℕ) → MayLeave file → (entries : List (List ℕ)) × StandsFor file entries × StandsAfter entries under × (IsHistory kept → IsHistory entries)

-- why a file isn't taken as a court's
abbrev pub HasCourtFault : (file : List ℕ) → CourtFileFault → Type 0
HasCourtFault file (court_file.Court cause) = desk_court_in file ≡ Err cause
HasCourtFault file (court_file.Divided line) = court_part file ≢ file
HasCourtFault file court_file.OutOfMemory = Unit {0}
