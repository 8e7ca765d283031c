-- A sheet, with what rows call its case, its deadlines and its motions on lines of their own.
use Rattle.std.specs.Prelude.{ℕ, List, [], ◌∷◌, ◌++◌, codes}
use Rattle.std.specs.List.{flat_map}
use Rattle.court_clock.specs.Words.{ClockView}
use Rattle.court_days.specs.Words.{CourtView}
use Rattle.docket_rows.specs.declared.command.Counted.{Counted}
use Rattle.docket_rows.specs.declared.command.Counted.TheVariants.{Deadline, Motion}
use Rattle.docket_rows.specs.declared.sheet.Sheet.{Sheet}
use Rattle.docket_rows.specs.declared.sheet.SheetDeadline.{SheetDeadline}
use Rattle.docket_rows.specs.declared.sheet.SheetMotion.{SheetMotion}
use Rattle.desk_numbers.specs.Words.{label_of, title_of}
use Rattle.office_texts.specs.Words.{assigned_line, deadline_line, motion_lines}
use Rattle.office_texts.specs.Named.Words.{named_case_line}
use Rattle.report_texts.specs.Labels.{LabelsView}

-- a text as a line after this word; nothing where there is none
abbrev pub line_after : (word text : List ℕ) → List ℕ
line_after word [] = []
line_after word (b ∷ text) = word ++ (b ∷ text) ++ codes "\n"

-- `title Doe v. Acme`
abbrev pub title_line : LabelsView → (case : ℕ) → List ℕ
title_line labels case = line_after (codes "title ") (title_of labels.called case)

-- `label answer of Acme`
abbrev pub label_line : LabelsView → (case : ℕ) → Counted → (number : ℕ) → List ℕ
label_line labels case kind number = line_after (codes "label ") (label_of labels.called case kind number)

-- the line of the case, that of its title, and that of who has it
unfoldable pub case_lines : CourtView → LabelsView → Sheet → List ℕ
case_lines court labels s = named_case_line labels.cases s ++ title_line labels s.case ++ assigned_line court.judges s.assigned

-- the line of a deadline, and that of its label
unfoldable pub labelled_deadline : ClockView → LabelsView → (case : ℕ) → SheetDeadline → List ℕ
labelled_deadline clock labels case d = deadline_line clock d ++ label_line labels case Deadline d.number

-- the lines of a motion, and that of its label
unfoldable pub labelled_motion : CourtView → LabelsView → (case : ℕ) → SheetMotion → List ℕ
labelled_motion court labels case m = motion_lines court m ++ label_line labels case Motion m.number

-- the lines of the case, then of its deadlines, then of its motions
unfoldable pub labelled_sheet : CourtView → LabelsView → Sheet → List ℕ
labelled_sheet court labels s =
    case_lines court labels s ++ flat_map (labelled_deadline court.clock labels s.case) s.deadlines ++ flat_map (labelled_motion court labels s.case) s.motions
