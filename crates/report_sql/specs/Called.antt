-- What rows call cases, deadlines and motions.
use Rattle.std.specs.Prelude.{ℕ, List, [], ◌∷◌, ◌++◌, codes}
use Rattle.std.specs.List.{flat_map}
use Rattle.docket_rows.specs.declared.command.Counted.TheVariants.{Deadline, Motion}
use Rattle.docket_rows.specs.declared.sheet.Sheet.{Sheet}
use Rattle.docket_rows.specs.declared.sheet.SheetDeadline.{SheetDeadline}
use Rattle.docket_rows.specs.declared.sheet.SheetMotion.{SheetMotion}
use Rattle.desk_numbers.specs.Words.{label_of, title_of}
use Rattle.report_texts.specs.Words.{LabelsView}
use Rattle.report_sql.specs.Rows.{null, number, row_of, text}

-- what rows call the case of that number, if they do
abbrev pub title_row : (case : ℕ) → (title : List ℕ) → List ℕ
title_row case [] = []
title_row case (b ∷ title) = row_of (codes "titles") case (text (b ∷ title) ∷ [])

-- what rows call a deadline of it, if they do
abbrev pub deadline_label : (case deadline : ℕ) → (label : List ℕ) → List ℕ
deadline_label case deadline [] = []
deadline_label case deadline (b ∷ label) = row_of (codes "labels") case (number deadline ∷ null ∷ text (b ∷ label) ∷ [])

-- what rows call a motion of it, if they do
abbrev pub motion_label : (case motion : ℕ) → (label : List ℕ) → List ℕ
motion_label case motion [] = []
motion_label case motion (b ∷ label) = row_of (codes "labels") case (null ∷ number motion ∷ text (b ∷ label) ∷ [])

abbrev pub label_of_deadline : LabelsView → (case : ℕ) → SheetDeadline → List ℕ
label_of_deadline labels case d = deadline_label case d.number (label_of labels.called case Deadline d.number)

abbrev pub label_of_motion : LabelsView → (case : ℕ) → SheetMotion → List ℕ
label_of_motion labels case m = motion_label case m.number (label_of labels.called case Motion m.number)

-- what rows call a case, each of its deadlines and each of its motions, in order
unfoldable pub called_rows : LabelsView → Sheet → List ℕ
called_rows labels s =
    title_row s.case (title_of labels.called s.case) ++ flat_map (label_of_deadline labels s.case) s.deadlines ++ flat_map (label_of_motion labels s.case) s.motions
