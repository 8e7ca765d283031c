-- The events of a calendar (RFC 5545, 3.6.1).
use Rattle.std.specs.Prelude.{ℕ, ◌+◌, ℤ, pos, ◌+ℤ◌, Bool, true, false, List, [], ◌∷◌, ◌++◌, Option, Some, None, codes}
use Rattle.std.specs.Fmt.{decimal}
use Rattle.case_numbers.specs.Words.{case_text}
use Rattle.court_clock.specs.Words.{ClockView, day_text}
use Rattle.court_days.specs.Words.{CourtView}
use Rattle.rule6.specs.declared.timeliness.Act.TheVariants.{Filing, Service}
use Rattle.rule6.specs.declared.timeliness.Act.{Act}
use Rattle.rule6.specs.declared.timeliness.Means.TheVariants.{Electronic}
use Rattle.rule6.specs.declared.timeliness.Shown.{Shown}
use Rattle.rule6.specs.declared.timeliness.Shown.TheVariants as shown
use Rattle.rule6.specs.Words.{day_end}
use Rattle.rule_periods.specs.declared.period.Period.{Period}
use Rattle.rule_periods.specs.declared.period.Period.TheVariants as period
use Rattle.rule_periods.specs.declared.rule.RulePeriod.{RulePeriod}
use Rattle.docket_rows.specs.declared.fact.Ending.{Ending}
use Rattle.docket_rows.specs.declared.hearing.Hearing.{Hearing as HearingSet}
use Rattle.docket_rows.specs.declared.sheet.SheetHearing.{SheetHearing}
use Rattle.docket_rows.specs.declared.sheet.State.{State}
use Rattle.docket_rows.specs.declared.sheet.State.TheVariants.{Late, Timely}
use Rattle.docket_selection.specs.declared.item.DueDeadline.{DueDeadline}
use Rattle.docket_selection.specs.declared.item.DueItem.{DueItem}
use Rattle.docket_selection.specs.declared.item.Matter.{Matter}
use Rattle.docket_selection.specs.declared.item.Matter.TheVariants.{Deadline, Hearing}
use Rattle.content_lines.specs.Words.{date_digits, property, utc_text}
use Rattle.office_texts.specs.Words.{and_ended_text, name_of}
use Rattle.reason_texts.specs.Periods.Words.{event_words, rule_section, rule_words}
use Rattle.reason_texts.specs.Words.{minute_time, second_time}
use Rattle.report_texts.specs.Words.{LabelsView, called_after, counted_in, given_words, matter_words, period_words}
use Rattle.report_ics.specs.declared.appointment.Appointment.{Appointment}
use Rattle.report_ics.specs.Times.{slot_begins, utc_if_any}

abbrev pub kind_words : Matter → List ℕ
kind_words (Deadline d) = codes "-deadline-"
kind_words (Hearing h) = codes "-motion-"

-- `case-7-motion-1@jerghuma`: what a calendar program knows an event by. It stays when a hearing is moved.
unfoldable pub uid : DueItem → List ℕ
uid item = codes "case-" ++ decimal item.case ++ kind_words item.matter ++ decimal item.number ++ codes "@jerghuma"

unfoldable pub begin_lines : (stamp : ℤ) → DueItem → List (List ℕ)
begin_lines stamp item =
    property (codes "BEGIN") (codes "VEVENT")
    ∷ property (codes "UID") (uid item)
    ∷ property (codes "DTSTAMP") (utc_text stamp)
    ∷ property (codes "LAST-MODIFIED") (utc_text stamp)
    ∷ []

-- a calendar program takes an event over one with a lower number
abbrev pub sequence_lines : (revision : ℕ) → List (List ℕ)
sequence_lines revision = property (codes "SEQUENCE") (decimal revision) ∷ []

-- that the event is off the calendar, if it is
abbrev pub status_lines : (cancelled : Bool) → List (List ℕ)
status_lines true = property (codes "STATUS") (codes "CANCELLED") ∷ []
status_lines false = []

-- a day as a whole, up to the next; it takes nobody's time
unfoldable pub day_lines : (day : ℤ) → List (List ℕ)
day_lines day =
    property (codes "DTSTART;VALUE=DATE") (date_digits day)
    ∷ property (codes "DTEND;VALUE=DATE") (date_digits (day +ℤ pos 1))
    ∷ property (codes "TRANSP") (codes "TRANSPARENT")
    ∷ []

-- an instant; it takes nobody's time
unfoldable pub instant_lines : (instant : ℤ) → List (List ℕ)
instant_lines instant = property (codes "DTSTART") (utc_text instant) ∷ property (codes "TRANSP") (codes "TRANSPARENT") ∷ []

-- from when to when a hearing is
unfoldable pub span_lines : ClockView → HearingSet → List (List ℕ)
span_lines clock h =
    property (codes "DTSTART") (utc_if_any (slot_begins clock h.day h.first))
    ∷ property (codes "DTEND") (utc_if_any (slot_begins clock h.day (h.first + h.count)))
    ∷ []

-- the last day of a deadline, or the instant at which its hours end
abbrev pub end_lines : (day : ℤ) → Shown → List (List ℕ)
end_lines day (shown.Until end) = instant_lines end
end_lines day (shown.Last last act) = day_lines day
end_lines day shown.Beyond = day_lines day

abbrev pub time_lines : ClockView → (day : ℤ) → Matter → List (List ℕ)
time_lines clock day (Deadline d) = end_lines day d.shown
time_lines clock day (Hearing h) = span_lines clock h.hearing

-- a deadline that is off this calendar runs on; one that no row starts any more ends on no day
abbrev pub off_end : Shown → List ℕ
off_end shown.Beyond = codes "Cancelled: "
off_end end = codes "Off this calendar: "

-- and one that was ended runs no more
abbrev pub off_deadline : Shown → Option Ending → List ℕ
off_deadline end (Some why) = codes "Cancelled: "
off_deadline end None = off_end end

-- a program that doesn't know the status of an event shows its summary all the same
abbrev pub off_words : (cancelled : Bool) → Matter → List ℕ
off_words true (Hearing h) = codes "Cancelled: "
off_words true (Deadline d) = off_deadline d.shown d.ended
off_words false matter = []

-- what is to be done within a period of the Rules, or an entered period in words
abbrev pub what_words : Period → List ℕ
what_words (period.Rule rule) = rule_words rule
what_words (period.Entered e) = period_words (period.Entered e)

abbrev pub state_words : State → List ℕ
state_words Timely = codes ", filed in time"
state_words Late = codes ", filed late"
state_words state = []

-- ` deadline 2: an answer to the complaint, filed late`, ` deadline 2: an answer to the complaint, ended moot`
unfoldable pub deadline_name : (number : ℕ) → DueDeadline → List ℕ
deadline_name number d = codes " deadline " ++ decimal number ++ codes ": " ++ what_words d.period ++ state_words d.state ++ and_ended_text d.ended

-- ` motion 1: hearing before Ames+Brandt, room R1`
abbrev pub name_words : CourtView → (number : ℕ) → Matter → List ℕ
name_words court number (Deadline d) = deadline_name number d
name_words court number (Hearing h) = matter_words court number (Hearing h)

-- `Case 1 motion 1: hearing before Ames+Brandt, room R1 (Doe v. Acme)`; a case that has a name is called by it, and what rows call the
-- case and the deadline or the motion comes last
unfoldable pub summary : CourtView → LabelsView → Appointment → List ℕ
summary court labels a =
    off_words a.cancelled a.item.matter ++ codes "Case " ++ case_text labels.cases a.item.case ++ name_words court a.item.number a.item.matter
    ++ called_after labels a.item.case (counted_in a.item.matter) a.item.number

-- the room of a hearing
abbrev pub place_lines : CourtView → Matter → List (List ℕ)
place_lines court (Deadline d) = []
place_lines court (Hearing h) = property (codes "LOCATION") (codes "Room " ++ name_of court.rooms h.hearing.room) ∷ []

-- until when an opposing affidavit can be served (Fed. R. Civ. P. 6(c)(2)), if there is such a day
unfoldable pub affidavits_front : List ℕ
affidavits_front = codes "\nThe last day to serve an opposing affidavit is "

unfoldable pub affidavits_back : List ℕ
affidavits_back = codes " (Fed. R. Civ. P. 6(c)(2))."

abbrev pub affidavits_words : Option ℤ → List ℕ
affidavits_words (Some day) = affidavits_front ++ day_text day ++ affidavits_back
affidavits_words None = []

unfoldable pub notice_front : List ℕ
notice_front = codes "Notice of the hearing was served on "

unfoldable pub hearing_words : SheetHearing → List ℕ
hearing_words h = notice_front ++ day_text h.hearing.notice ++ codes "." ++ affidavits_words h.affidavits

unfoldable pub midnight_words : List ℕ
midnight_words = codes "The time ends with this day, at midnight"

unfoldable pub paper_words : List ℕ
paper_words = codes "; for filing on paper when the clerk's office closes, at "

unfoldable pub minute_front : List ℕ
minute_front = codes "The time ends on this day, at "

-- a last day ends at midnight, or for an act by electronic means at the minute that a local rule sets (Fed. R. Civ. P. 6(a)(4)(A))
abbrev pub day_words : (end : Option ℕ) → List ℕ
day_words None = midnight_words
day_words (Some minute) = minute_front ++ minute_time minute

-- a last day ends for filing on paper when the clerk's office closes (Fed. R. Civ. P. 6(a)(4)(B))
abbrev pub closing_words : ClockView → Act → List ℕ
closing_words clock Filing = paper_words ++ minute_time clock.closes
closing_words clock Service = []

unfoldable pub until_front : List ℕ
until_front = codes "The time ends at "

unfoldable pub until_back : List ℕ
until_back = codes " on the court's clock"

unfoldable pub lost_words : List ℕ
lost_words = codes "It was taken off the docket"

-- when the time of a deadline ends, if a row starts it
abbrev pub end_words : ClockView → (second : ℕ) → Shown → List ℕ
end_words clock second (shown.Last day act) = day_words (day_end clock act Electronic) ++ closing_words clock act
end_words clock second (shown.Until end) = until_front ++ second_time second ++ until_back
end_words clock second shown.Beyond = lost_words

unfoldable pub rule_front : List ℕ
rule_front = codes " (Fed. R. Civ. P. "

-- `an answer to the complaint`, the event from which its time runs, and the section that sets it
unfoldable pub rule_period_words : RulePeriod → List ℕ
rule_period_words rule = rule_words rule ++ codes ", " ++ event_words rule ++ rule_front ++ rule_section rule ++ codes ")"

abbrev pub described : Period → List ℕ
described (period.Rule rule) = rule_period_words rule
described (period.Entered e) = period_words (period.Entered e)

unfoldable pub reading_front : List ℕ
reading_front = codes "\nBy another reading of the Rules: "

-- when it ends by another reading, if one gives another end
abbrev pub reading_words : ClockView → Option Shown → List ℕ
reading_words clock (Some other) = reading_front ++ given_words clock other ++ codes "."
reading_words clock None = []

unfoldable pub deadline_words : ClockView → (second : ℕ) → DueDeadline → List ℕ
deadline_words clock second d = codes "Period: " ++ described d.period ++ codes ".\n" ++ end_words clock second d.shown ++ codes "." ++ reading_words clock d.other

-- what the docket says besides
abbrev pub description : ClockView → (second : ℕ) → Matter → List ℕ
description clock second (Deadline d) = deadline_words clock second d
description clock second (Hearing h) = hearing_words h

unfoldable pub word_lines : CourtView → LabelsView → Appointment → List (List ℕ)
word_lines court labels a =
    property (codes "SUMMARY") (summary court labels a)
    ∷ place_lines court a.item.matter
    ++ property (codes "DESCRIPTION") (description court.clock a.item.second a.item.matter) ∷ []

-- the lines of an event
unfoldable pub event_lines : CourtView → LabelsView → (stamp : ℤ) → Appointment → List (List ℕ)
event_lines court labels stamp a =
    begin_lines stamp a.item
    ++ sequence_lines a.revision
    ++ status_lines a.cancelled
    ++ time_lines court.clock a.item.day a.item.matter
    ++ word_lines court labels a
    ++ property (codes "END") (codes "VEVENT") ∷ []
