-- What a row makes is called: by the field of a column `label` in a row that has none.
use Rattle.std.specs.Prelude.{ℕ, Bool, ◌&&◌, not, List, [], ◌∷◌, ◌++◌, codes, Option, Some, None, if◌then◌else◌}
use Rattle.csv.specs.Writing.{default_writer, row_text}
use Rattle.row_fields.specs.Words.{is_one_of}
use Rattle.row_forms.specs.Words.{is_text}
use Rattle.row_forms.specs.declared.headings.columns.Column.{Column}
use Rattle.row_forms.specs.declared.headings.columns.Column.TheVariants.{Label}
use Rattle.row_written.specs.Subjects.{has_mark}
use Rattle.row_written.specs.Headings.{index_of, word_at}

-- a row with this command word makes a deadline or a motion, in a word: nothing where it makes neither
unfoldable pub made_by : (word : List ℕ) → List ℕ
made_by word =
    if is_one_of word (codes "start" ∷ codes "set" ∷ []) then codes "deadline"
    else if is_one_of word (codes "motion" ∷ []) then codes "motion"
    else []

-- what the field of that column says, in a row of a file with these headings that makes this
abbrev pub label_at : Option (List (List ℕ)) → (made : List ℕ) → (fields : List (List ℕ)) → List ℕ
label_at None made fields = []
label_at (Some headings) [] fields = []
label_at (Some headings) (b ∷ made) fields = word_at fields (index_of (codes "label") headings)

-- the plain row that says that what the row before makes is called so, if it is called something
abbrev pub row_of_label : (made : List ℕ) → (plain : List (List ℕ)) → (label : List ℕ) → Option (List ℕ)
row_of_label made plain [] = None
row_of_label made plain (b ∷ label) =
    Some (row_text default_writer (word_at plain 0 ∷ codes "label" ∷ word_at plain 2 ∷ made ∷ codes "new" ∷ (b ∷ label) ∷ []))

-- the columns whose fields a row may have: in a file with headings one that makes something may have a label
abbrev pub wanted_columns : Option (List (List ℕ)) → (made : List ℕ) → List Column → List Column
wanted_columns None made columns = columns
wanted_columns (Some headings) [] columns = columns
wanted_columns (Some headings) (b ∷ made) columns = columns ++ Label ∷ []

-- something may be called so, as a row written by hand says it
abbrev pub is_label : List ℕ → Bool
is_label text = is_text text && not (has_mark text)
