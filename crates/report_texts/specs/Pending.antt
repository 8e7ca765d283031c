-- What has been pending for long on a day, by judge.
use Rattle.std.specs.Prelude.{ℕ, ℤ, List, [], ◌++◌, Option, Some, None, codes, length}
use Rattle.std.specs.Fmt.{decimal}
use Rattle.std.specs.List.{flat_map}
use Rattle.case_numbers.specs.Words.{case_text}
use Rattle.court_days.specs.Words.{CourtView}
use Rattle.docket_rows.specs.declared.command.Counted.TheVariants.{Motion}
use Rattle.docket_selection.specs.declared.pending.PendingItem.{PendingItem}
use Rattle.docket_selection.specs.declared.pending.PendingKind.{PendingKind}
use Rattle.docket_selection.specs.declared.pending.PendingKind.TheVariants.{Cases, Motions}
use Rattle.office_texts.specs.Words.{name_of}
use Rattle.report_texts.specs.Called.{called_beneath, title_beneath}
use Rattle.report_texts.specs.Days.{whole_day}
use Rattle.report_texts.specs.Labels.{LabelsView}

-- `Pending on Tue 2026-03-31`
unfoldable pub pending_title : (day : ℤ) → List ℕ
pending_title day = codes "Pending on " ++ whole_day day

-- what is listed
abbrev pub kind_words : PendingKind → List ℕ
kind_words Motions = codes "Motions with no ruling for more than six months"
kind_words Cases = codes "Cases of more than three years that aren't closed"

-- `Motions with no ruling for more than six months: 2`
unfoldable pub pending_count : PendingKind → List PendingItem → List ℕ
pending_count kind items = kind_words kind ++ codes ": " ++ decimal (length items)

-- who has the case
abbrev pub holder_words : CourtView → (judge : Option ℕ) → List ℕ
holder_words court (Some judge) = name_of court.judges judge
holder_words court None = codes "not assigned"

-- the motion of a case, where it is one that is pending
abbrev pub motion_words : (motion : Option ℕ) → List ℕ
motion_words (Some motion) = codes " motion " ++ decimal motion
motion_words None = []

-- `  Ames: case 1 motion 2, since Tue 2025-09-02`
unfoldable pub pending_line : CourtView → LabelsView → PendingItem → List ℕ
pending_line court labels item =
    codes "  " ++ holder_words court item.judge ++ codes ": case " ++ case_text labels.cases item.case ++ motion_words item.motion ++ codes ", since " ++ whole_day item.since ++ codes "\n"

-- what rows call it, beneath: the case, and the motion where it is one
abbrev pub pending_beneath : LabelsView → (case : ℕ) → (motion : Option ℕ) → List ℕ
pending_beneath labels case (Some motion) = called_beneath labels case Motion motion
pending_beneath labels case None = title_beneath labels case

unfoldable pub pending_lines : CourtView → LabelsView → PendingItem → List ℕ
pending_lines court labels item = pending_line court labels item ++ pending_beneath labels item.case item.motion

-- how many there are, and the lines of each
unfoldable pub pending_part : CourtView → LabelsView → PendingKind → List PendingItem → List ℕ
pending_part court labels kind items = codes "\n" ++ pending_count kind items ++ codes "\n" ++ flat_map (pending_lines court labels) items

-- the day, then the motions and then the cases
unfoldable pub pending_text : CourtView → LabelsView → (day : ℤ) → (motions cases : List PendingItem) → List ℕ
pending_text court labels day motions cases =
    pending_title day ++ codes "\n" ++ pending_part court labels Motions motions ++ pending_part court labels Cases cases
