-- A folder: what opening it finds, and the faults of its journal.
use Rattle.std.specs.Prelude.{ℕ, List, ◌++◌, IsTrue, codes}
use Rattle.sqlite_disk.specs.declared.Disk as disk
use Rattle.desk_journal.specs.declared.fault.JournalFault.TheVariants as journal
use Rattle.desk_journal.specs.Words.{IsWhole, StandsFor}
use Rattle.desk_program.specs.declared.desk.Desk.{Desk}
use Rattle.desk_program.specs.declared.faults.opening.OpenFault.{OpenFault}
use Rattle.desk_program.specs.declared.faults.opening.OpenFault.TheVariants.{Journal, OutOfMemory}
use Rattle.desk_program.specs.Words.{KeepsDocket, disk_under}

-- Unless a wrong answer of the disk was taken as true, none of the file's entries is damaged, it stands for these entries, and they are
-- what the desk keeps.
abbrev pub IsOpened : {D : Type 0} → (g : disk.Ghosts D) → (file : List ℕ) → (entries : List (List ℕ)) → Desk D → Type 0
IsOpened g file entries desk = IsTrue (g.is_clean (disk_under desk)) → IsWhole file × StandsFor file entries × KeepsDocket g entries desk

-- the name of the folder in which a folder is
abbrev pub above_name : (folder : List ℕ) → List ℕ
above_name folder = folder ++ codes "/.."

-- the name of the file that an opening makes beside its journal
abbrev pub spare_name : (folder : List ℕ) → List ℕ
spare_name folder = folder ++ codes "/journal-wal"

-- the same fault, but that a disk in memory fails for want of memory alone
abbrev pub fault_in_memory : OpenFault → OpenFault
fault_in_memory (Journal journal.Read) = OutOfMemory
fault_in_memory (Journal journal.Write) = OutOfMemory
fault_in_memory (Journal journal.Sync) = OutOfMemory
fault_in_memory fault = fault
