-- The line of a deadline or a hearing.
use Rattle.std.specs.Prelude.{ℕ, ◌+◌, ◌*◌, List, [], ◌∷◌, ◌++◌, None, codes}
use Rattle.std.specs.Fmt.{decimal}
use Rattle.case_numbers.specs.Words.{case_text}
use Rattle.court_clock.specs.Words.{ClockView}
use Rattle.court_days.specs.Words.{CourtView}
use Rattle.rule6.specs.declared.timeliness.Means.TheVariants.{Electronic}
use Rattle.rule6.specs.declared.timeliness.Shown.{Shown}
use Rattle.rule6.specs.declared.timeliness.Shown.TheVariants as shown
use Rattle.rule6.specs.Words.{day_end}
use Rattle.docket_rows.specs.declared.hearing.Hearing.{Hearing as HearingSet}
use Rattle.docket_rows.specs.declared.sheet.State.{State}
use Rattle.docket_rows.specs.declared.sheet.State.TheVariants.{Late}
use Rattle.docket_selection.specs.declared.item.DueDeadline.{DueDeadline}
use Rattle.docket_selection.specs.declared.item.DueItem.{DueItem}
use Rattle.docket_selection.specs.declared.item.Matter.{Matter}
use Rattle.docket_selection.specs.declared.item.Matter.TheVariants.{Deadline, Hearing}
use Rattle.office_texts.specs.Words.{and_ended_text, name_of}
use Rattle.report_texts.specs.Called.{called_beneath}
use Rattle.report_texts.specs.Labels.{LabelsView}
use Rattle.report_texts.specs.Names.{panel_names}
use Rattle.report_texts.specs.Other.{other_words}
use Rattle.report_texts.specs.Periods.{period_words}
use Rattle.report_texts.specs.Selected.{counted_in}
use Rattle.reason_texts.specs.Words.{day_end_time, minute_time, second_time}

-- when a deadline ends: at a second of its day, or on its last day when that ends for an act by electronic means
abbrev pub end_words : ClockView → (second : ℕ) → Shown → List ℕ
end_words clock second (shown.Until end) = codes "to " ++ second_time second
end_words clock second (shown.Last day act) = codes "to " ++ day_end_time (day_end clock act Electronic)
end_words clock second shown.Beyond = codes "to " ++ day_end_time None

-- `09:30-10:15`: slot s begins at minute 15·s of the day
unfoldable pub span_words : (first count : ℕ) → List ℕ
span_words first count = minute_time (15 * first) ++ codes "-" ++ minute_time (15 * (first + count))

abbrev pub time_words : ClockView → (second : ℕ) → Matter → List ℕ
time_words clock second (Deadline d) = end_words clock second d.shown
time_words clock second (Hearing h) = span_words h.hearing.first h.hearing.count

abbrev pub late_words : State → List ℕ
late_words Late = codes ", filed late"
late_words state = []

-- ` deadline 3: 59e, filed late`, ` deadline 3: 59e, ended moot`
unfoldable pub deadline_words : (number : ℕ) → DueDeadline → List ℕ
deadline_words number d = codes " deadline " ++ decimal number ++ codes ": " ++ period_words d.period ++ late_words d.state ++ and_ended_text d.ended

abbrev pub room_words : CourtView → (room : ℕ) → List ℕ
room_words court room = codes ", room " ++ name_of court.rooms room

unfoldable pub hearing_front : List ℕ
hearing_front = codes ": hearing before "

-- ` motion 1: hearing before Ames+Brandt, room R1`
unfoldable pub hearing_words : CourtView → (number : ℕ) → HearingSet → List ℕ
hearing_words court number h =
    codes " motion " ++ decimal number ++ hearing_front ++ panel_names court h.judges ++ room_words court h.room

-- a deadline, and its end by another reading, or a hearing
abbrev pub matter_words : CourtView → (number : ℕ) → Matter → List ℕ
matter_words court number (Deadline d) = deadline_words number d ++ other_words court.clock d.other
matter_words court number (Hearing h) = hearing_words court number h.hearing

-- `  to midnight  case 1 deadline 3: 59e`; a case that has a name is called by it
unfoldable pub item_line : CourtView → LabelsView → DueItem → List ℕ
item_line court labels item =
    codes "  " ++ time_words court.clock item.second item.matter ++ codes "  case " ++ case_text labels.cases item.case ++ matter_words court item.number item.matter ++ 10 ∷ []

-- the line of an item, and beneath it what rows call it and its case
unfoldable pub item_lines : CourtView → LabelsView → DueItem → List ℕ
item_lines court labels item = item_line court labels item ++ called_beneath labels item.case (counted_in item.matter) item.number
