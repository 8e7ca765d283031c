-- The marks of sessions, and what is said of one that was cut off.
use Rattle.std.specs.Prelude.{ℕ, List, ◌++◌, codes}
use Rattle.std.specs.Fmt.{decimal}

-- the name of a mark of a folder
abbrev pub mark_name : (folder : List ℕ) → (number : ℕ) → List ℕ
mark_name folder number = folder ++ codes "/entering-" ++ decimal number

-- what is said of a session of that account that was cut off, after which so many rows are kept
abbrev pub cut_off_line : (folder account : List ℕ) → (rows : ℕ) → List ℕ
cut_off_line folder account rows =
    codes "docket: a session of " ++ account ++ codes " was cut off; the last row that is kept is row " ++ decimal rows ++ codes ": see 'docket log " ++ folder ++ codes " --row " ++ decimal rows ++ codes "'\n"
