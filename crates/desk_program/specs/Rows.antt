-- What is written of a docket's rows.
use Rattle.std.specs.Prelude.{ℕ, List, [], ◌∷◌, ◌++◌, codes, if◌then◌else◌, nat_eq}
use Rattle.std.specs.Fmt.{decimal}
use Rattle.std.specs.List.{ends_with}
use Rattle.desk_numbers.specs.declared.moved.Moved.{Moved}
use Rattle.desk_register.specs.declared.standing.Standing.{Standing}
use Rattle.desk_entries.specs.Words.{row_entries, rows_written, standing_file}

-- a court's file, with an end of its last line
abbrev pub ended : List ℕ → List ℕ
ended file = if ends_with nat_eq file (10 ∷ []) then file else file ++ 10 ∷ []

-- what comes before the rows: a court's file, and a line `%%`
abbrev pub head_of : (file : List ℕ) → List ℕ
head_of file = ended file ++ codes "%%\n"

-- what clerk_office reads: the court's file that stands, a line `%%` and the rows that stand
abbrev pub written_rows : Standing → List Moved → (entries : List (List ℕ)) → List ℕ
written_rows under moved entries = head_of (standing_file entries) ++ rows_written under moved 1 (row_entries entries)

-- how many rows are kept
abbrev pub count_text : ℕ → List ℕ
count_text count = codes "rows kept: " ++ decimal count ++ codes ", and each is answered as it was\n"
