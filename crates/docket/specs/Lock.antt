-- The lock of a folder, and what is said where it can't be had.
use Rattle.std.specs.Prelude.{ℕ, List, ◌++◌, codes}
use Rattle.std.specs.Fmt.{decimal}

-- the name of the file whose lock is the folder's
abbrev pub lock_name : (folder : List ℕ) → List ℕ
lock_name folder = folder ++ codes "/lock"

-- the name of the file whose lock who is next has
abbrev pub next_name : (folder : List ℕ) → List ℕ
next_name folder = folder ++ codes "/next"

-- what is said where others had the lock for so many seconds
abbrev pub waited_line : (folder : List ℕ) → (wait : ℕ) → List ℕ
waited_line folder wait =
    codes "other programs had " ++ folder ++ codes " for " ++ decimal wait ++ codes " s, so nothing was written: try again, or wait longer with --wait\n"

-- what is said where the file system keeps no locks
abbrev pub unlocked_line : (folder : List ℕ) → List ℕ
unlocked_line folder =
    codes "the file system of " ++ folder ++ codes " doesn't keep locks apart, so programs can't share the folder: move it to a disk of this machine\n"
