-- The parts of tables.
use Rattle.std.specs.Prelude.{ℕ, ℤ, List, [], ◌∷◌, ◌++◌, Option, Some}
use Rattle.case_numbers.specs.declared.names.NamedCase.{NamedCase}
use Rattle.docket_rows.specs.declared.command.Counted.TheVariants.{Motion}
use Rattle.page_markup.specs.declared.tag.Tag.TheVariants as tag
use Rattle.page_markup.specs.Words.{element, escaped, text_in}
use Rattle.report_texts.specs.Words.{LabelsView, called_after}
use Rattle.report_page.specs.Phrases.{case_name, motion_name}

-- the heads of three columns
unfoldable pub three_heads : (first second third : List ℕ) → List ℕ
three_heads first second third =
    element tag.TableHead (element tag.Row (text_in tag.ColumnHead first ++ text_in tag.ColumnHead second ++ text_in tag.ColumnHead third))

-- the heads of four columns
unfoldable pub four_heads : (first second third fourth : List ℕ) → List ℕ
four_heads first second third fourth =
    element tag.TableHead (element tag.Row (text_in tag.ColumnHead first ++ text_in tag.ColumnHead second ++ text_in tag.ColumnHead third ++ text_in tag.ColumnHead fourth))

-- a link to the part of a case, which has an anchor by the case's number
unfoldable pub case_link : List NamedCase → (case : ℕ) → List ℕ
case_link named case = text_in (tag.CaseLink case) (case_name named case)

-- a cell that names a case
unfoldable pub case_cell : List NamedCase → (case : ℕ) → List ℕ
case_cell named case = element tag.Cell (case_link named case)

-- a cell that names a case and one of its motions, with what rows call these
unfoldable pub motion_cell : LabelsView → (case motion : ℕ) → List ℕ
motion_cell labels case motion = element tag.Cell (case_link labels.cases case ++ escaped (motion_name motion ++ called_after labels case Motion motion))

-- a row for each of some things that have days, in their order, and before it what the day calls for after that of the one before
unfoldable pub rows_by_day : {X : Type 0} → (day_of : X → ℤ) → (head : Option ℤ → ℤ → List ℕ) → (row : X → List ℕ) → (before : Option ℤ) → List X → List ℕ
rows_by_day day_of head row before [] = []
rows_by_day day_of head row before (x ∷ xs) = head before (day_of x) ++ row x ++ rows_by_day day_of head row (Some (day_of x)) xs
