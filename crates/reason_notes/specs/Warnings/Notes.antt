-- What a reader is warned of: what is docketed is lawful, and may be a mistake. No deadline depends on a note.
use Rattle.std.specs.Prelude.{ℕ, ◌==◌, ◌&&◌, Bool, true, false, ℤ, pos, ◌+ℤ◌, int_lt, int_le, List, [], ◌++◌, Option, Some, None, codes, if◌then◌else◌}
use Rattle.court_clock.specs.declared.direction.Direction.{Direction}
use Rattle.court_clock.specs.declared.direction.Direction.TheVariants.{After, Before}
use Rattle.court_clock.specs.Words.{ClockView, day_text}
use Rattle.court_days.specs.Words.{DaysView, has_outage, is_permitted}
use Rattle.rule6.specs.declared.timeliness.Filing.{Filing}
use Rattle.rule6.specs.declared.timeliness.Shown.{Shown}
use Rattle.rule_periods.specs.declared.grant.Grant.{Grant}
use Rattle.rule_periods.specs.declared.grant.Request.{Request}
use Rattle.rule_periods.specs.declared.mark.Mark.{Mark}
use Rattle.rule_periods.specs.declared.mark.Mark.TheVariants.{Rule50b, Rule50d, Rule52b, Rule59b as Mark59b, Rule59e as Mark59e}
use Rattle.rule_periods.specs.declared.period.Period.{Period}
use Rattle.rule_periods.specs.declared.period.Period.TheVariants.{Rule as OfRule, Entered as OfText}
use Rattle.rule_periods.specs.declared.rule.RulePeriod.{RulePeriod}
use Rattle.rule_periods.specs.declared.rule.RulePeriod.TheVariants.{Rule59b, Rule59e}
use Rattle.rule_periods.specs.Words.{DeadlineRowView, direction_of, is_asked_in_time, is_in_hours, is_order, is_set, runs_from}
use Rattle.reason_texts.specs.Words.{course_of, note_line}
use Rattle.reason_notes.specs.Margins.Words.{end_day}
use Rattle.reason_notes.specs.Warnings.Holidays.{lists_no_more}

-- a line that is marked so
abbrev pub note : (day : Option ℤ) → (what : List ℕ) → List ℕ
note day what = note_line day what (codes "note")

-- an event that lies before the day on which the case was filed
abbrev pub before_filing : (filed event : ℤ) → List ℕ
before_filing filed event =
    if int_lt event filed then note (Some event) (codes "the event lies before the filing of the case") else []

-- the same of the second event, where a period has one
abbrev pub second_before_filing : (filed : ℤ) → (second : Option ℤ) → List ℕ
second_before_filing filed (Some event) = before_filing filed event
second_before_filing filed None = []

-- an event that lies 365 days or more from the day that counts as today: its year may be wrong
unfoldable pub far_from : (today event : ℤ) → List ℕ
far_from today event =
    if int_le (event +ℤ pos 365) today then note (Some event) (codes "the event lies a year or more before " ++ day_text today)
    else if int_le (today +ℤ pos 365) event then note (Some event) (codes "the event lies a year or more after " ++ day_text today)
    else []

abbrev pub second_far_from : (today : ℤ) → (second : Option ℤ) → List ℕ
second_far_from today (Some event) = far_from today event
second_far_from today None = []

-- the same of both events, where a day counts as today and no act is recorded
abbrev pub far_if_open : (today : Option ℤ) → (act : Option Filing) → DeadlineRowView → List ℕ
far_if_open (Some today) None row = far_from today row.event.day ++ second_far_from today row.second
far_if_open today act row = []

-- the period runs from a day before the one from which it is right as it is applied
abbrev pub before_rule : (start right_from : ℤ) → List ℕ
before_rule start right_from =
    if int_lt start right_from then note (Some start) (codes "the event lies before the rule that is applied") else []

-- hours whose event has no time of day, or 00:00, count from midnight at the beginning of its day
abbrev pub without_time : DeadlineRowView → List ℕ
without_time row =
    if is_in_hours row.period && (row.event.minute == 0)
    then note (Some row.event.day) (codes "event at 00:00, or its time of day is missing")
    else []

-- the end lies after the last holiday of the United States that the court's file lists
abbrev pub without_holidays : DaysView → (last : Option ℤ) → List ℕ
without_holidays c (Some last) =
    if lists_no_more c last then note (Some last) (codes "no federal holiday is listed from this day on") else []
without_holidays c None = []

-- a day that an order sets lies before the day on which the case was filed
abbrev pub set_before_filing : (filed set : ℤ) → List ℕ
set_before_filing filed set =
    if int_lt set filed then note (Some set) (codes "the day set lies before the filing of the case") else []

-- a day that an order sets is a Saturday, a Sunday or a legal holiday, and it stays the end
abbrev pub set_on_closed_day : DaysView → (set : ℤ) → List ℕ
set_on_closed_day c set =
    if is_permitted c After set then [] else note (Some set) (codes "the day set is a Saturday, a Sunday or a holiday")

-- The end of a period that is counted back from its event, as from a hearing, lies on a later day than the event. An
-- extension can give such an end, and so can outages.
abbrev pub after_event : Direction → (event : ℤ) → (last : Option ℤ) → List ℕ
after_event Before event (Some last) =
    if int_lt event last then note (Some last) (codes "the end lies after the event it counts back from") else []
after_event direction event last = []

-- the note on the end that a deadline shows
abbrev pub end_notes : ClockView → DeadlineRowView → Shown → List ℕ
end_notes clock row shown = after_event (direction_of row.period) row.event.day (end_day clock shown)

-- an act before the day from which a period runs that is counted after its event
abbrev pub before_start : Direction → (start : ℤ) → (act : Option Filing) → List ℕ
before_start After start (Some filing) =
    if int_lt filing.day start then note (Some filing.day) (codes "the act was done before its event") else []
before_start direction start act = []

-- an act by a day that an order sets is done before it
abbrev pub early_act : Period → (start : ℤ) → (act : Option Filing) → List ℕ
early_act period start act = if is_set period then [] else before_start (direction_of period) start act

-- A motion under one of these Rules gives the time for an appeal another beginning (Fed. R. App. P. 4(a)(4)): a period of the Rules, and
-- the mark of one that is entered. 50(d) is the time of a losing party's motion under Rule 59.
abbrev pub is_of_judgment : RulePeriod → Bool
is_of_judgment Rule59b = true
is_of_judgment Rule59e = true
is_of_judgment rule = false

abbrev pub marks_judgment : Mark → Bool
marks_judgment Rule50b = true
marks_judgment Rule50d = true
marks_judgment Rule52b = true
marks_judgment Mark59b = true
marks_judgment Mark59e = true
marks_judgment other = false

abbrev pub moves_appeal : Period → Bool
moves_appeal (OfRule rule) = is_of_judgment rule
moves_appeal (OfText entered) = marks_judgment entered.mark

-- such a motion that was made
abbrev pub appeal_begins : Period → (act : Option Filing) → List ℕ
appeal_begins p None = []
appeal_begins p (Some filing) =
    if moves_appeal p then note (Some filing.day) (codes "if timely, the time to appeal moves: FRAP 4(a)(4)") else []

-- the notes on an act, if there is one
abbrev pub notes_of_act : Period → (start : ℤ) → (act : Option Filing) → List ℕ
notes_of_act p start act = early_act p start act ++ appeal_begins p act

abbrev pub act_notes : DeadlineRowView → List ℕ
act_notes row = notes_of_act row.period (runs_from row) row.filed

-- the notes on a day that an order sets
unfoldable pub set_notes : DaysView → (filed set : ℤ) → List ℕ
set_notes c filed set = set_before_filing filed set ++ set_on_closed_day c set

-- the notes on a period as it was started: on its events, its rule and its hours, and on the holidays that count for its end
unfoldable pub event_notes : DaysView → ClockView → (filed : ℤ) → (today : Option ℤ) → DeadlineRowView → Shown → List ℕ
event_notes c clock filed today row shown =
    before_filing filed row.event.day ++ second_before_filing filed row.second ++ far_if_open today row.filed row ++ before_rule (runs_from row) (course_of row.period).right_from ++ without_time row ++ without_holidays c (end_day clock shown)

-- the notes on a deadline as it was started
unfoldable pub start_notes : DaysView → ClockView → (filed : ℤ) → (today : Option ℤ) → DeadlineRowView → Shown → List ℕ
start_notes c clock filed today row shown =
    if is_set row.period then set_notes c filed row.event.day else event_notes c clock filed today row shown

-- the notes on a deadline, of which this is shown, in a case that was filed on that day
unfoldable pub deadline_notes : DaysView → ClockView → (filed : ℤ) → (today : Option ℤ) → DeadlineRowView → Shown → List ℕ
deadline_notes c clock filed today row shown =
    start_notes c clock filed today row shown ++ end_notes clock row shown ++ act_notes row

-- that an extension was asked for, or an order made, when the end that it gives was past
abbrev pub dated_late_words : Grant → List ℕ
dated_late_words grant = if is_order grant then codes "the order is dated after the end that it sets" else codes "asked for after the end that it gives"

-- the notes on an extension, or on an order that sets another end: the end that it gave was past when it was asked for or made, and
-- those on that end
abbrev pub asked_late : ClockView → Shown → Request → List ℕ
asked_late clock shown request =
    if is_asked_in_time clock shown request.asked then [] else note (Some request.asked.day) (dated_late_words request.grant)

unfoldable pub extension_notes : ClockView → DeadlineRowView → Shown → Request → List ℕ
extension_notes clock row shown request = asked_late clock shown request ++ end_notes clock row shown

-- a hearing is set on a day on which the clerk's office was inaccessible
unfoldable pub hearing_notes : DaysView → (day : ℤ) → List ℕ
hearing_notes c day = if has_outage c day then note (Some day) (codes "the clerk's office was inaccessible on this day") else []
