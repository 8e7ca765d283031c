-- A desk that is left, so that others can keep rows in its journal, and goes on with what they kept.
use Rattle.std.specs.Prelude.{◌≡◌, ◌≤◌, ℕ, true, false, IsTrue, List, ◌++◌}
use Rattle.sqlite_disk.specs.declared.Disk as disk
use Rattle.desk_journal.specs.declared.journal_end.JournalEnd.{JournalEnd}
use Rattle.desk_journal.specs.Words.{Frame, IsEndOf, IsWhole, StampView, StandsFor, entries_of}
use Rattle.desk_register.specs.declared.standing.Standing.{Standing}
use Rattle.desk_entries.specs.Words.{IsDocketed, are_rows}
use Rattle.desk_warnings.specs.declared.register.HeldBack.{HeldBack}
use Rattle.desk_program.specs.declared.desk.Desk.{Desk}
use Rattle.desk_program.specs.declared.remembered.Remembered.{Remembered}
use Rattle.desk_program.specs.declared.remembered.Resumed.{Resumed}
use Rattle.desk_program.specs.declared.remembered.Resumed.TheVariants as resumed
use Rattle.desk_program.specs.Desk.{KeepsDocket, disk_under, held_at, stamp_under}

-- where its journal ended
abbrev pub end_in : Remembered → JournalEnd
end_in remembered = remembered.end

-- what stood there
abbrev pub standing_in : Remembered → Standing
standing_in remembered = remembered.docketed.standing

-- what is held back of the rows that are entered when the desk goes on
abbrev pub held_in : Remembered → HeldBack
held_in remembered = remembered.held_back

-- The journal that was left had these frames, and the docket is the one to which their entries come.
pub record Remembers (fs : List Frame) (remembered : Remembered) : Type 0 where
  pub ends : IsEndOf fs remembered.end
  pub docketed : IsDocketed remembered.docketed (entries_of fs)

-- A desk goes on with what others kept after these entries, all of which are rows: the file stands for all of them, none is damaged, and all
-- are kept and docketed.
pub record GoesOn {D : Type 0} (g : disk.Ghosts D) (file : List ℕ) (before : List (List ℕ)) (desk : Desk D) : Type 0 where
  pub more : List (List ℕ)
  pub rows : are_rows more ≡ true
  pub stands : StandsFor file (before ++ more)
  pub undamaged : IsWhole file
  pub keeps : KeepsDocket g (before ++ more) desk

-- Not all that others kept after these entries are rows, and whatever a crash leaves of the disk stands for all of them.
pub record HasCorrections {D : Type 0} (g : disk.Ghosts D) (file : List ℕ) (before : List (List ℕ)) (disk : D) : Type 0 where
  pub more : List (List ℕ)
  pub corrected : are_rows more ≡ false
  pub stands : StandsFor file (before ++ more)
  pub undamaged : IsWhole file
  pub left : (c : List ℕ) → g.may_leave disk c → StandsFor c (before ++ more)

-- what becomes of a desk that was left after these entries, unless a wrong answer of the disk was taken as true
abbrev pub GoesOnAs : {D : Type 0} → (g : disk.Ghosts D) → (file : List ℕ) → (before : List (List ℕ)) → Resumed D → Type 0
GoesOnAs g file before (resumed.Desk desk) = IsTrue (g.is_clean (disk_under desk)) → GoesOn g file before desk
GoesOnAs g file before (resumed.Corrected disk) = IsTrue (g.is_clean disk) → HasCorrections g file before disk

-- what it holds back, where it goes on
abbrev pub holds_back : {D : Type 0} → HeldBack → Resumed D → Type 0
holds_back held (resumed.Desk desk) = held_at desk ≡ held
holds_back held (resumed.Corrected disk) = Unit {0}

-- and the stamp that entries get which are kept there
abbrev pub GivesStamp : {D : Type 0} → StampView → Resumed D → Type 0
GivesStamp stamp (resumed.Desk desk) = ((stamp_under desk).account ≡ stamp.account) × (stamp.time ≤ (stamp_under desk).time)
GivesStamp stamp (resumed.Corrected disk) = Unit {0}
