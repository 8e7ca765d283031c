-- What has been pending for long, as a table for other programs: a record for each motion and each case, by judge.
use Rattle.std.specs.Prelude.{ℕ, List, [], ◌∷◌, ◌++◌, Option, Some, None, codes}
use Rattle.std.specs.Fmt.{decimal}
use Rattle.std.specs.List.{flat_map}
use Rattle.case_numbers.specs.Words.{case_text}
use Rattle.court_clock.specs.Words.{day_text}
use Rattle.court_days.specs.Words.{CourtView}
use Rattle.desk_numbers.specs.Words.{label_of, title_of}
use Rattle.docket_rows.specs.declared.command.Counted.TheVariants.{Motion}
use Rattle.docket_selection.specs.declared.pending.PendingItem.{PendingItem}
use Rattle.office_texts.specs.Words.{name_of}
use Rattle.report_texts.specs.Csv.{csv_field}
use Rattle.report_texts.specs.Labels.{LabelsView}

-- a field after another
unfoldable pub csv_more : (text : List ℕ) → List ℕ
csv_more text = 44 ∷ csv_field text

-- who has the case; empty where it isn't assigned
abbrev pub judge_text : CourtView → (judge : Option ℕ) → List ℕ
judge_text court (Some judge) = name_of court.judges judge
judge_text court None = []

-- what it is
abbrev pub kind_text : (motion : Option ℕ) → List ℕ
kind_text (Some motion) = codes "motion"
kind_text None = codes "case"

-- its number, where it is a motion
abbrev pub motion_text : (motion : Option ℕ) → List ℕ
motion_text (Some motion) = decimal motion
motion_text None = []

-- what rows call the motion, where it is one
abbrev pub motion_label : LabelsView → (case : ℕ) → (motion : Option ℕ) → List ℕ
motion_label labels case (Some motion) = label_of labels.called case Motion motion
motion_label labels case None = []

-- who has it, and what it is
unfoldable pub record_front : CourtView → LabelsView → PendingItem → List ℕ
record_front court labels item =
    csv_field (judge_text court item.judge) ++ csv_more (kind_text item.motion) ++ csv_more (case_text labels.cases item.case) ++ csv_more (motion_text item.motion)

-- since when, and what rows call it
unfoldable pub record_back : LabelsView → PendingItem → List ℕ
record_back labels item =
    csv_more (day_text item.since) ++ csv_more (title_of labels.called item.case) ++ csv_more (motion_label labels item.case item.motion) ++ codes "\n"

unfoldable pub pending_record : CourtView → LabelsView → PendingItem → List ℕ
pending_record court labels item = record_front court labels item ++ record_back labels item

unfoldable pub csv_heads : List ℕ
csv_heads = codes "judge,kind,case,motion,since,title,label\n"

-- the names of the columns, then the motions and then the cases
unfoldable pub pending_csv : CourtView → LabelsView → (motions cases : List PendingItem) → List ℕ
pending_csv court labels motions cases = csv_heads ++ flat_map (pending_record court labels) motions ++ flat_map (pending_record court labels) cases
