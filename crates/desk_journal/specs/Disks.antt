-- What is on a disk, and what a crash may leave of it. `g` has the words of a disk: `seen` is what a read returns, `may_leave` what a
-- crash may leave, and `is_usable` says that no sync has failed.
use Rattle.std.specs.Prelude.{◌≡◌, ℕ, List, ◌∷◌, ◌++◌, IsTrue}
use Rattle.sqlite_disk.specs.Disk.{Only}
use Rattle.sqlite_disk.specs.declared.Disk as disk

-- a read returns this file, a crash leaves it and nothing else, and no sync has failed
pub record IsDurable {D : Type 0} (g : disk.Ghosts D) (file : List ℕ) (disk : D) : Type 0 where
  pub read : g.seen disk ≡ file
  pub only : Only file (g.may_leave disk)
  pub usable : IsTrue (g.is_usable disk)

-- nothing was written: a read returns what it did, and a crash leaves nothing that it didn't
pub record IsUntouched {D : Type 0} (g : disk.Ghosts D) (before after : D) : Type 0 where
  pub same : g.seen after ≡ g.seen before
  pub no_more : (file : List ℕ) → g.may_leave after file → g.may_leave before file

-- the file, with any bytes after its end
abbrev pub IsLonger : List ℕ → List ℕ → Type 0
IsLonger file left = (tail : List ℕ) × (left ≡ file ++ tail)

-- some two bytes are between these two
abbrev pub IsAround : List ℕ → List ℕ → List ℕ → Type 0
IsAround front tail left = (latch : ℕ) × (second : ℕ) × (left ≡ front ++ latch ∷ second ∷ tail)
