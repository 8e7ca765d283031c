-- What a crash left of a journal after its last entry, and is saved.
use Rattle.std.specs.Prelude.{ℕ, ℤ, pos, ◌/◌, List, ◌++◌, codes, min, nat_eq, if◌then◌else◌}
use Rattle.std.specs.Fmt.{decimal}
use Rattle.court_clock.specs.Words.{day_text}

-- the day of UTC in which a second is, as far as days have numbers
abbrev pub day_at : (second : ℕ) → ℤ
day_at second = pos (min (second / 86_400) 110_000)

-- the name of a folder's file of what is cut off on a day
abbrev pub cut_name : (folder : List ℕ) → (day : ℤ) → (number : ℕ) → List ℕ
cut_name folder day number = folder ++ codes "/cut-" ++ day_text day ++ codes "-" ++ decimal number

-- what is said of one byte, or of more, which are saved in the file of that name
abbrev pub one_line : (name : List ℕ) → List ℕ
one_line name = codes "docket: a crash left 1 byte after the last entry: it is saved in " ++ name ++ codes " and cut off\n"

abbrev pub many_line : (count : ℕ) → (name : List ℕ) → List ℕ
many_line count name = codes "docket: a crash left " ++ decimal count ++ codes " bytes after the last entry: they are saved in " ++ name ++ codes " and cut off\n"

abbrev pub saved_line : (count : ℕ) → (name : List ℕ) → List ℕ
saved_line count name = if nat_eq count 1 then one_line name else many_line count name
