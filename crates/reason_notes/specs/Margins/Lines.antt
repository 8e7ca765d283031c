-- The lines of an act: when and how it was done, and by how much it was in time or late, or that this isn't decided.
use Rattle.std.specs.Prelude.{ℕ, ◌/◌, ◌%◌, ◌==◌, ℤ, int_lt, List, [], ◌++◌, Option, Some, None, codes, if◌then◌else◌}
use Rattle.std.specs.Fmt.{decimal}
use Rattle.court_clock.specs.declared.direction.Direction.{Direction}
use Rattle.court_clock.specs.declared.direction.Direction.TheVariants.{After, Before}
use Rattle.court_clock.specs.Words.{ClockView}
use Rattle.court_days.specs.Words.{DaysView}
use Rattle.rule6.specs.declared.timeliness.Act.TheVariants as act
use Rattle.rule6.specs.declared.timeliness.Filing.{Filing}
use Rattle.rule6.specs.declared.timeliness.Means.{Means}
use Rattle.rule6.specs.declared.timeliness.Means.TheVariants.{Electronic, Paper}
use Rattle.rule6.specs.declared.timeliness.Shown.{Shown}
use Rattle.rule6.specs.declared.timeliness.Shown.TheVariants.{Last, Until}
use Rattle.rule6.specs.Words.{day_end}
use Rattle.rule_periods.specs.declared.period.Period.{Period}
use Rattle.rule_periods.specs.Words.{DeadlineRowView, direction_of, is_set, runs_from, shown_of}
use Rattle.reason_texts.specs.Words.{day_end_time, minute_time, note_line}
use Rattle.reason_notes.specs.declared.margins.margin.Margin.{Margin}
use Rattle.reason_notes.specs.declared.margins.margin.Margin.TheVariants.{DaysEarly, OnLastDay, AfterDayEnd, DaysLate, SecondsEarly, SecondsLate, Undecided}
use Rattle.reason_notes.specs.Margins.Ends.{end_day}
use Rattle.reason_notes.specs.Margins.Margin.{margin_of}

abbrev pub means_text : Means → List ℕ
means_text Electronic = codes ", electronically"
means_text Paper = codes ", on paper"

-- `done at 23:59, electronically`
abbrev pub done_text : (minute : ℕ) → Means → List ℕ
done_text minute means = codes "done at " ++ minute_time minute ++ means_text means

-- the minute at which a last day ends for an act by these means, if it ends before midnight
abbrev pub end_by : ClockView → Shown → Means → Option ℕ
end_by clock (Last day act) means = day_end clock act means
end_by clock shown means = None

-- what ends at that minute
abbrev pub after_words : Means → List ℕ
after_words Paper = codes " min after closing at "
after_words Electronic = codes " min after e-filing ended at "

-- `1 day`, `2 days`
abbrev pub days_text : ℕ → List ℕ
days_text n = decimal n ++ (if n == 1 then codes " day" else codes " days")

-- `3 h 20 min 0 s`
abbrev pub seconds_text : ℕ → List ℕ
seconds_text n = decimal (n / 3600) ++ codes " h " ++ decimal (n / 60 % 60) ++ codes " min " ++ decimal (n % 60) ++ codes " s"

-- the words that a margin begins with
abbrev pub first_words : Margin → List ℕ
first_words (DaysEarly n) = codes "timely, "
first_words OnLastDay = codes "timely, on the last day, which ends at "
first_words (AfterDayEnd n) = codes "late, "
first_words (DaysLate n) = codes "late, "
first_words (SecondsEarly n) = codes "timely, "
first_words (SecondsLate n) = codes "late, "
first_words Undecided = codes "undecided: the end is beyond the days covered"

-- how much it is, and on the last day when that ends
abbrev pub detail_text : (end : Option ℕ) → Means → Margin → List ℕ
detail_text end means (DaysEarly n) = days_text n
detail_text end means OnLastDay = day_end_time end
detail_text end means (AfterDayEnd n) = decimal n ++ after_words means ++ day_end_time end
detail_text end means (DaysLate n) = days_text n
detail_text end means (SecondsEarly n) = seconds_text n
detail_text end means (SecondsLate n) = seconds_text n
detail_text end means Undecided = []

-- the words that it ends with
abbrev pub last_words : Margin → List ℕ
last_words (DaysEarly n) = codes " before this last day"
last_words (DaysLate n) = codes " after this last day"
last_words (SecondsEarly n) = codes " before the end"
last_words (SecondsLate n) = codes " after the end"
last_words margin = []

-- `timely, 80 days before this last day`
unfoldable pub margin_text : (end : Option ℕ) → Means → Margin → List ℕ
margin_text end means margin = first_words margin ++ detail_text end means margin ++ last_words margin

-- the section that decides; that a time to serve ends at midnight is a choice of ours
abbrev pub margin_section : Shown → List ℕ
margin_section (Last day act.Filing) = codes "6(a)(4)"
margin_section (Until end) = codes "6(a)(2)"
margin_section shown = codes "ours"

-- the day before which an act comes before its event, where the period is measured after one
abbrev pub event_after : Direction → ℤ → Option ℤ
event_after After event = Some event
event_after Before event = None

-- the same of any period: an act by a day that an order sets comes before no event
abbrev pub event_of : Period → ℤ → Option ℤ
event_of period event = if is_set period then None else event_after (direction_of period) event

-- An act before the event of its deadline is timely here; another reading takes it for none.
abbrev pub early_line : Option ℤ → (done : ℤ) → List ℕ
early_line None done = []
early_line (Some event) done =
    if int_lt done event then note_line (Some event) (codes "other reading: no act, done before its event") (codes "ours") else []

-- the act, and then by how much it was in time or late for a deadline of which this is shown
unfoldable pub margin_lines : ClockView → Shown → Filing → List ℕ
margin_lines clock shown filing =
    note_line (Some filing.day) (done_text filing.minute filing.means) (codes "docketed") ++ note_line (end_day clock shown) (margin_text (end_by clock shown filing.means) filing.means (margin_of clock shown filing)) (margin_section shown)

-- the lines of an act that was done for a deadline
unfoldable pub act_lines : DaysView → ClockView → DeadlineRowView → Filing → List ℕ
act_lines c clock row filing =
    margin_lines clock (shown_of c clock row) filing ++ early_line (event_of row.period (runs_from row)) filing.day

-- the lines of the act that is recorded for a deadline, where one is
abbrev pub filed_lines : DaysView → ClockView → DeadlineRowView → Option Filing → List ℕ
filed_lines c clock row (Some filing) = act_lines c clock row filing
filed_lines c clock row None = []

abbrev pub recorded_lines : DaysView → ClockView → Option DeadlineRowView → List ℕ
recorded_lines c clock (Some row) = filed_lines c clock row row.filed
recorded_lines c clock None = []
