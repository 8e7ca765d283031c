-- Sessions of lines, and what is said of a row that is struck or restored.
use Rattle.std.specs.Prelude.{◌≡◌, ◌<◌, ◌⊎◌, ℕ, ℤ, IsTrue, List, ◌++◌, ⊤, Option, Result, Ok, Err, codes, string_bytes}
use Rattle.sqlite_disk.specs.declared.Disk as disk
use Rattle.court_clock.specs.Words.{day_text}
use Rattle.desk_journal.specs.Words.{BeginsWith, Frame, IsWhole, StandsFor}
use Rattle.desk_register.specs.declared.standing.Standing.{Standing}
use Rattle.desk_entries.specs.Words.{StandsAfter}
use Rattle.desk_warnings.specs.declared.register.HeldBack.{HeldBack}
use Rattle.program_main.specs.Texts.Words.{today_by}
use Rattle.program_words.specs.declared.task.Correcting.{Correcting}
use Rattle.desk_session.specs.declared.outcome.Tally.{Tally}
use Rattle.desk_program.specs.declared.desk.Desk.{Desk}
use Rattle.desk_program.specs.declared.faults.desk.DeskFault.TheVariants.{Faulty}
use Rattle.desk_program.specs.declared.remembered.Remembered.{Remembered}
use Rattle.desk_program.specs.declared.row_correction.RowCorrection.{RowCorrection}
use Rattle.desk_program.specs.declared.row_correction.RowCorrection.TheVariants as done
use Rattle.desk_program.specs.Words.{IsPromisedDocket, KeepsDocket, Remembers, disk_under, standing_at}
use Rattle.docket.specs.declared.fault.Fault.{Fault}
use Rattle.docket.specs.declared.fault.Fault.TheVariants as fault

-- this is so of the tally of all lines: all were taken, or, as the fault says, some had faults or were held back
abbrev pub WithTally : (IsSo : Tally → Type 0) → Result ⊤ Fault → Type 0
WithTally IsSo (Ok done) = (tally : Tally) × (tally.faults ≡ 0) × (tally.held ≡ 0) × IsSo tally
WithTally IsSo (Err (fault.Desk (Faulty tally))) = ((0 < tally.faults) ⊎ (0 < tally.held)) × IsSo tally
WithTally IsSo (Err other) = Unit {0}

-- This is so of some lines: what was written is a beginning of the answers to the first of them, and whatever a crash leaves has the entries
-- of at least these, so that no answered row is lost.
abbrev pub PromisesLines : (under : Standing) → (held : HeldBack) → (kept : List (List ℕ)) → (before after : Option (List ℕ)) → (HasWritten : Type 0) → (MayLeave : List ℕ → Type 0) → Type 0
PromisesLines under held kept before after HasWritten MayLeave = (lines : List (List ℕ)) × IsPromisedDocket under held kept lines before after HasWritten MayLeave

-- the same of a session at a desk, with what it held back, after the entries that the desk kept
abbrev pub PromisesSession : {D : Type 0} → (g : disk.Ghosts D) → (held : HeldBack) → (desk desk_after : Desk D) → (before after : Option (List ℕ)) → (HasWritten : Type 0) → Type 0
PromisesSession g held desk desk_after before after HasWritten =
    (kept : List (List ℕ)) → KeepsDocket g kept desk → PromisesLines (standing_at desk) held kept before after HasWritten (g.may_leave (disk_under desk_after))

-- And of a session on a file, which held this as it was opened: the file stood for some entries, of which none was damaged, and the
-- session went by what stands after them.
pub record EntersFile (file : List ℕ) (held : HeldBack) (before after : Option (List ℕ)) (HasWritten : Type 0) (MayLeave : List ℕ → Type 0) : Type 0 where
  pub entries : List (List ℕ)
  pub under : Standing
  pub stood : StandsFor file entries
  pub whole : IsWhole file
  pub stands : StandsAfter entries under
  pub promised : PromisesLines under held entries before after HasWritten MayLeave

-- A docket that was left goes on with a file that begins with what its journal was then: others have only appended to it since.
abbrev pub IsLeftIn : (file : List ℕ) → Remembered → Type 0
IsLeftIn file remembered = (fs : List Frame) × Remembers fs remembered × BeginsWith file fs

-- Unless a wrong answer of the disk was taken as true, the file stands for some entries, of which none is damaged, and the desk keeps just
-- these.
abbrev pub Resumes : {D : Type 0} → (g : disk.Ghosts D) → (file : List ℕ) → Desk D → Type 0
Resumes g file desk = IsTrue (g.is_clean (disk_under desk)) → (entries : List (List ℕ)) × StandsFor file entries × IsWhole file × KeepsDocket g entries desk

-- what was done with a row, struck or restored, when, by which account and why
unfoldable pub remark_text : (done : List ℕ) → (day : ℤ) → (account reason : List ℕ) → List ℕ
remark_text done day account reason = done ++ codes " " ++ day_text day ++ codes " by " ++ account ++ codes ": " ++ reason ++ codes "\n"

abbrev pub done_text : RowCorrection → List ℕ
done_text done.Strike = codes "struck"
done_text done.Restore = codes "restored"

-- it is done on the day that the court's clock shows
abbrev pub remark_by : (done : List ℕ) → Standing → (account : List ℕ) → Correcting → List ℕ
remark_by done under account correcting = remark_text done (today_by under.court.clock correcting.clock_time) account (string_bytes correcting.reason)
