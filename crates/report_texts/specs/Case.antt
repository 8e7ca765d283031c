-- One page of a case: what its sheet has, in parts, and last the head of the entries of its log.
use Rattle.std.specs.Prelude.{ℕ, List, [], ◌∷◌, ◌++◌, codes}
use Rattle.std.specs.List.{flat_map}
use Rattle.court_clock.specs.Words.{ClockView}
use Rattle.court_days.specs.Words.{CourtView}
use Rattle.docket_rows.specs.declared.sheet.Sheet.{Sheet}
use Rattle.docket_rows.specs.declared.sheet.SheetDeadline.{SheetDeadline}
use Rattle.docket_rows.specs.declared.sheet.SheetMotion.{SheetMotion}
use Rattle.report_texts.specs.Labels.{LabelsView}
use Rattle.report_texts.specs.Sheets.{case_lines, labelled_deadline, labelled_motion}

-- the deadlines with their labels and their states, or that there is none
abbrev pub deadlines_part : ClockView → LabelsView → (case : ℕ) → List SheetDeadline → List ℕ
deadlines_part clock labels case [] = codes "\nNo deadlines.\n"
deadlines_part clock labels case (d ∷ deadlines) = codes "\nDeadlines\n" ++ flat_map (labelled_deadline clock labels case) (d ∷ deadlines)

-- the motions with their labels, how they were ruled on, and their hearings, or that there is none
abbrev pub motions_part : CourtView → LabelsView → (case : ℕ) → List SheetMotion → List ℕ
motions_part court labels case [] = codes "\nNo motions.\n"
motions_part court labels case (m ∷ motions) = codes "\nMotions\n" ++ flat_map (labelled_motion court labels case) (m ∷ motions)

-- the page up to the entries of the log
unfoldable pub case_page_text : CourtView → LabelsView → Sheet → List ℕ
case_page_text court labels s =
    case_lines court labels s ++ deadlines_part court.clock labels s.case s.deadlines ++ motions_part court labels s.case s.motions ++ codes "\nLast entries\n"
