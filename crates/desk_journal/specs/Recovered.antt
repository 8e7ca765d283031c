-- What recovery finds and leaves.
use Rattle.std.specs.Prelude.{◌≡◌, ◌≤◌, ℕ, List, [], ◌∷◌, ◌++◌, Option, MatchOption, Vec, length}
use Rattle.std.specs.declared.alloc.Global.{Global}
use Rattle.sqlite_disk.specs.declared.Disk as disk
use Rattle.desk_journal.specs.Batches.{batch_of}
use Rattle.desk_journal.specs.Frames.{Frame, IsShut, StandsFor, entries_of, first_checksum, frames, stamps_of}
use Rattle.desk_journal.specs.Stamps.{StampView}
use Rattle.desk_journal.specs.Disks.{IsDurable}
use Rattle.desk_journal.specs.Kept.{KeepsFrames}
use Rattle.desk_journal.specs.Left.{BeginsWith, IsEndOf}
use Rattle.desk_journal.specs.Reading.{IsForeign, IsWhole}
use Rattle.desk_journal.specs.declared.journal.Journal.{Journal}
use Rattle.desk_journal.specs.declared.journal_end.JournalEnd.{JournalEnd}
use Rattle.desk_journal.specs.declared.recovery.Recovered.{Recovered}

-- after the shut latch with which `rest` begins comes what no crash leaves there
abbrev pub EndsForeign : ℕ → List ℕ → List ℕ → Type 0
EndsForeign durable previous rest = (behind : List ℕ) × (rest ≡ 45 ∷ 45 ∷ behind) × IsForeign durable previous behind

-- After the frames `before` the file's entries and their stamps are read up to its shut latch, which is at this end.
pub record IsFound (before : List Frame) (file : List ℕ) (entries : List (Vec ℕ Global)) (stamps : List StampView) (end : JournalEnd) : Type 0 where
  pub more : List Frame
  pub rest : List ℕ
  pub parts : file ≡ frames first_checksum (before ++ more) ++ rest
  pub shut : IsShut rest
  pub same : batch_of entries ≡ entries_of more
  pub stamped : stamps ≡ stamps_of more
  pub end_is : IsEndOf (before ++ more) end

-- what is found of a file: nothing of one of at most two bytes, and of another its entries, none of which is damaged
abbrev pub Finds : (file : List ℕ) → Option Recovered → Type 0
Finds file found = MatchOption found (length file ≤ 2) (λ r. IsFound [] file r.entries.items r.stamps.items r.end × IsWhole file)

-- these entries and their stamps are found after the frames `before`, none is damaged, and all frames and a shut latch are all that is on
-- the disk
pub record IsRepaired {D : Type 0} (g : disk.Ghosts D) (before : List Frame) (file : List ℕ) (entries : List (Vec ℕ Global)) (stamps : List StampView) (end : JournalEnd) (disk : D) : Type 0 where
  pub found : IsFound before file entries stamps end
  pub undamaged : IsWhole file
  pub durable : IsDurable g (frames first_checksum (before ++ found.more) ++ 45 ∷ 45 ∷ []) disk

-- A journal goes on after the frames `before`: these entries come after them in the file, none is damaged, and all of them are kept.
pub record IsResumed {D : Type 0} (g : disk.Ghosts D) (before : List Frame) (file : List ℕ) (entries : List (Vec ℕ Global)) (journal : Journal D) : Type 0 where
  pub more : List Frame
  pub same : batch_of entries ≡ entries_of more
  pub begins : BeginsWith file (before ++ more)
  pub stands : StandsFor file (entries_of (before ++ more))
  pub undamaged : IsWhole file
  pub kept : KeepsFrames g (before ++ more) journal
