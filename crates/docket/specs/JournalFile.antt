-- The file of a folder's journal.
use Rattle.std.specs.Prelude.{ℕ, List, ◌++◌, codes}

-- the name of a folder's journal
abbrev pub journal_name : (folder : List ℕ) → List ℕ
journal_name folder = folder ++ codes "/journal"

-- `cases/journal is a named pipe, not a file`
abbrev pub other_line : (name what : List ℕ) → List ℕ
other_line name what = name ++ codes " is " ++ what ++ codes ", not a file\n"

-- what is said of a file that has other names too
abbrev pub linked_line : (name : List ℕ) → List ℕ
linked_line name = name ++ codes " has another name too, by which other programs may change it: give the folder a copy of its own\n"
