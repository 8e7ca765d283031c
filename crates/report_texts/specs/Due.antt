-- What is due, by day.
use Rattle.std.specs.Prelude.{ℕ, ◌==◌, ℤ, Bool, true, false, List, [], ◌∷◌, ◌++◌, Option, Some, None, codes, if◌then◌else◌}
use Rattle.std.specs.Fmt.{decimal}
use Rattle.std.specs.Option.{option_map_or}
use Rattle.std.specs.Ordering.{int_eq}
use Rattle.case_numbers.specs.Words.{case_text}
use Rattle.case_numbers.specs.declared.names.NamedCase.{NamedCase}
use Rattle.court_days.specs.Words.{CourtView}
use Rattle.docket_selection.specs.declared.choice.Choice.{Choice}
use Rattle.docket_selection.specs.declared.item.DueItem.{DueItem}
use Rattle.office_texts.specs.Words.{name_of}
use Rattle.report_texts.specs.Days.{whole_day}
use Rattle.report_texts.specs.Items.{item_lines}
use Rattle.report_texts.specs.Labels.{LabelsView}
use Rattle.reason_texts.specs.Words.{minute_time}

abbrev pub judge_words : CourtView → Option ℕ → List ℕ
judge_words court (Some judge) = codes ", judge " ++ name_of court.judges judge
judge_words court None = []

abbrev pub case_words : List NamedCase → Option ℕ → List ℕ
case_words named (Some case) = codes ", case " ++ case_text named case
case_words named None = []

-- `Mon 2025-09-01 to Sun 2025-09-07, judge Ames, case 3`
unfoldable pub chosen_words : CourtView → List NamedCase → Choice → List ℕ
chosen_words court named choice =
    whole_day choice.from ++ codes " to " ++ whole_day choice.to ++ judge_words court choice.judge ++ case_words named choice.case

-- what is listed
abbrev pub heading_front : (overdue : Bool) → List ℕ
heading_front true = codes "Overdue from "
heading_front false = codes "Due from "

-- `Due from Mon 2025-09-01 to Sun 2025-09-07, judge Ames, case 3`
unfoldable pub heading : CourtView → List NamedCase → Choice → List ℕ
heading court named choice = heading_front choice.overdue ++ chosen_words court named choice ++ 10 ∷ []

unfoldable pub closing_front : List ℕ
closing_front = codes "Filing on paper ends at "

unfoldable pub closing_back : List ℕ
closing_back = codes ", when the clerk's office closes.\n"

-- a last day ends for filing on paper when the clerk's office closes (Fed. R. Civ. P. 6(a)(4)(B))
unfoldable pub closing_line : CourtView → List ℕ
closing_line court = closing_front ++ minute_time court.clock.closes ++ closing_back

-- the two are one day
abbrev pub is_day_of : (before : Option ℤ) → (day : ℤ) → Bool
is_day_of before day = option_map_or (λ b. int_eq b day) before false

-- a line for the day, unless it is that of the item before
abbrev pub day_line_if_new : (before : Option ℤ) → (day : ℤ) → List ℕ
day_line_if_new before day = if is_day_of before day then [] else codes "\n" ++ whole_day day ++ codes "\n"

-- the lines of each item, in the order of the list, and one for each day before the first item of it
unfoldable pub lines_after : CourtView → LabelsView → (before : Option ℤ) → List DueItem → List ℕ
lines_after court labels before [] = []
lines_after court labels before (item ∷ items) = day_line_if_new before item.day ++ item_lines court labels item ++ lines_after court labels (Some item.day) items

-- that nothing is listed
abbrev pub none_words : (overdue : Bool) → List ℕ
none_words true = codes "\nNothing is overdue.\n"
none_words false = codes "\nNothing is due.\n"

abbrev pub lines_or_none : CourtView → LabelsView → (overdue : Bool) → List DueItem → List ℕ
lines_or_none court labels overdue [] = none_words overdue
lines_or_none court labels overdue (item ∷ items) = lines_after court labels None (item ∷ items)

-- how many deadlines aren't listed since they are ended; nothing where there are none
abbrev pub left_out_line : (count : ℕ) → List ℕ
left_out_line count = if count == 0 then [] else codes "\nEnded, and so not listed: " ++ decimal count ++ codes ".\n"

-- what was chosen, and then the items by day
unfoldable pub due_text : CourtView → LabelsView → Choice → List DueItem → List ℕ
due_text court labels choice items = heading court labels.cases choice ++ closing_line court ++ lines_or_none court labels choice.overdue items
