-- Each line of a calendar is a content line.
use Rattle.std.specs.Prelude.{pos, ◌+ℤ◌}
use Rattle.std.proofs.Common.{◌≡◌, ◌∙◌, ◌+◌, ℕ, ℤ, Bool, true, false, ◌&&◌, nat_lt, List, [], ◌∷◌, ◌++◌, length, codes, refl, ltb-true}
use Rattle.std.specs.List.{flat_map, list_all}
use Rattle.std.specs.Fmt.{decimal}
use Rattle.std.proofs.lemmas.Bool.{and_from, and_parts}
use Rattle.std.proofs.lemmas.List.Folds.{list_all-append}
use Rattle.court_clock.specs.Words.{ClockView}
use Rattle.court_days.specs.Words.{CourtView}
use Rattle.rule6.specs.declared.timeliness.Shown.{Shown}
use Rattle.rule6.specs.declared.timeliness.Shown.TheVariants as shown
use Rattle.docket_rows.specs.declared.hearing.Hearing.{Hearing as HearingSet}
use Rattle.docket_selection.specs.declared.item.DueItem.{DueItem}
use Rattle.docket_selection.specs.declared.item.Matter.{Matter}
use Rattle.docket_selection.specs.declared.item.Matter.TheVariants.{Deadline, Hearing}
use Rattle.content_lines.specs.Words.{date_digits, is_content_line, property, utc_text}
use Rattle.content_lines.proofs.CallerLemmas.{folds_are_between_characters, property-content, sent_lines_are_short, unfolding_gives_the_lines}
use Rattle.office_texts.specs.Words.{name_of}
use Rattle.report_texts.specs.Words.{LabelsView}
use Rattle.report_ics.specs.declared.appointment.Appointment.{Appointment}
use Rattle.report_ics.specs.Calendar.{head_lines, icalendar_lines}
use Rattle.report_ics.specs.Events.{begin_lines, day_lines, description, end_lines, event_lines, instant_lines, place_lines, sequence_lines, span_lines, status_lines, summary, time_lines, uid, word_lines}
use Rattle.report_ics.specs.Laws.{CalendarsAreSentWhole}
use Rattle.report_ics.specs.Times.{slot_begins, utc_if_any}

abbrev are_lines : List (List ℕ) → Type 0
are_lines lines = list_all is_content_line lines ≡ true

-- a property with this name
named : (name value : List ℕ) → (nat_lt 0 (length name) && is_content_line name) ≡ true → is_content_line (property name value) ≡ true
named name value is =
    let both = and_parts (nat_lt 0 (length name)) (is_content_line name) is in
    property-content name value (ltb-true 0 (length name) both.0) both.1

more : (line : List ℕ) (lines : List (List ℕ)) → is_content_line line ≡ true → are_lines lines → are_lines (line ∷ lines)
more line lines one others = and_from (is_content_line line) (list_all is_content_line lines) one others

both : (xs ys : List (List ℕ)) → are_lines xs → are_lines ys → are_lines (xs ++ ys)
both xs ys first second = list_all-append is_content_line xs ys ∙ and_from (list_all is_content_line xs) (list_all is_content_line ys) first second

one : (name value : List ℕ) → (nat_lt 0 (length name) && is_content_line name) ≡ true → are_lines (property name value ∷ [])
one name value is = more (property name value) [] (named name value is) refl

head_are : are_lines head_lines
unfolding head_lines
head_are = both (property (codes "BEGIN") (codes "VCALENDAR") ∷ []) (property (codes "VERSION") (codes "2.0") ∷ property (codes "PRODID") (codes "-//Jerghuma//docket//EN") ∷ [])
    (one (codes "BEGIN") (codes "VCALENDAR") refl)
    (both (property (codes "VERSION") (codes "2.0") ∷ []) (property (codes "PRODID") (codes "-//Jerghuma//docket//EN") ∷ [])
    (one (codes "VERSION") (codes "2.0") refl) (one (codes "PRODID") (codes "-//Jerghuma//docket//EN") refl))

begin_are : (stamp : ℤ) (item : DueItem) → are_lines (begin_lines stamp item)
unfolding begin_lines
begin_are stamp item =
    let id = property (codes "UID") (uid item) in
    let written = property (codes "DTSTAMP") (utc_text stamp) in
    let changed = property (codes "LAST-MODIFIED") (utc_text stamp) in
    more (property (codes "BEGIN") (codes "VEVENT")) (id ∷ written ∷ changed ∷ []) (named (codes "BEGIN") (codes "VEVENT") refl)
    (more id (written ∷ changed ∷ []) (named (codes "UID") (uid item) refl)
    (more written (changed ∷ []) (named (codes "DTSTAMP") (utc_text stamp) refl) (one (codes "LAST-MODIFIED") (utc_text stamp) refl)))

sequence_are : (revision : ℕ) → are_lines (sequence_lines revision)
sequence_are revision = one (codes "SEQUENCE") (decimal revision) refl

status_are : (cancelled : Bool) → are_lines (status_lines cancelled)
status_are true = one (codes "STATUS") (codes "CANCELLED") refl
status_are false = refl

day_are : (day : ℤ) → are_lines (day_lines day)
unfolding day_lines
day_are day =
    let begins = property (codes "DTSTART;VALUE=DATE") (date_digits day) in
    let ends = property (codes "DTEND;VALUE=DATE") (date_digits (day +ℤ pos 1)) in
    let free = property (codes "TRANSP") (codes "TRANSPARENT") in
    more begins (ends ∷ free ∷ []) (named (codes "DTSTART;VALUE=DATE") (date_digits day) refl)
    (more ends (free ∷ []) (named (codes "DTEND;VALUE=DATE") (date_digits (day +ℤ pos 1)) refl) (one (codes "TRANSP") (codes "TRANSPARENT") refl))

instant_are : (instant : ℤ) → are_lines (instant_lines instant)
unfolding instant_lines
instant_are instant =
    more (property (codes "DTSTART") (utc_text instant)) (property (codes "TRANSP") (codes "TRANSPARENT") ∷ [])
    (named (codes "DTSTART") (utc_text instant) refl) (one (codes "TRANSP") (codes "TRANSPARENT") refl)

span_are : (clock : ClockView) (h : HearingSet) → are_lines (span_lines clock h)
unfolding span_lines
span_are clock h =
    let begins = utc_if_any (slot_begins clock h.day h.first) in
    let ends = utc_if_any (slot_begins clock h.day (h.first + h.count)) in
    more (property (codes "DTSTART") begins) (property (codes "DTEND") ends ∷ []) (named (codes "DTSTART") begins refl) (one (codes "DTEND") ends refl)

end_are : (day : ℤ) (end : Shown) → are_lines (end_lines day end)
end_are day (shown.Until end) = instant_are end
end_are day (shown.Last last act) = day_are day
end_are day shown.Beyond = day_are day

time_are : (clock : ClockView) (day : ℤ) (matter : Matter) → are_lines (time_lines clock day matter)
time_are clock day (Deadline d) = end_are day d.shown
time_are clock day (Hearing h) = span_are clock h.hearing

place_are : (court : CourtView) (matter : Matter) → are_lines (place_lines court matter)
place_are court (Deadline d) = refl
place_are court (Hearing h) = one (codes "LOCATION") (codes "Room " ++ name_of court.rooms h.hearing.room) refl

word_are : (court : CourtView) (labels : LabelsView) (a : Appointment) → are_lines (word_lines court labels a)
unfolding word_lines
word_are court labels a =
    both (property (codes "SUMMARY") (summary court labels a) ∷ place_lines court a.item.matter) (property (codes "DESCRIPTION") (description court.clock a.item.second a.item.matter) ∷ [])
    (more (property (codes "SUMMARY") (summary court labels a)) (place_lines court a.item.matter) (named (codes "SUMMARY") (summary court labels a) refl) (place_are court a.item.matter))
    (one (codes "DESCRIPTION") (description court.clock a.item.second a.item.matter) refl)

event_are : (court : CourtView) (labels : LabelsView) (stamp : ℤ) (a : Appointment) → are_lines (event_lines court labels stamp a)
unfolding event_lines
event_are court labels stamp a =
    let begin = begin_lines stamp a.item in
    let sequence = sequence_lines a.revision in
    let status = status_lines a.cancelled in
    let times = time_lines court.clock a.item.day a.item.matter in
    let words = word_lines court labels a in
    both (begin ++ sequence ++ status ++ times ++ words) (property (codes "END") (codes "VEVENT") ∷ [])
    (both (begin ++ sequence ++ status ++ times) words
    (both (begin ++ sequence ++ status) times
    (both (begin ++ sequence) status
    (both begin sequence (begin_are stamp a.item) (sequence_are a.revision))
    (status_are a.cancelled))
    (time_are court.clock a.item.day a.item.matter))
    (word_are court labels a))
    (one (codes "END") (codes "VEVENT") refl)

events_are : (court : CourtView) (labels : LabelsView) (stamp : ℤ) (appointments : List Appointment) → are_lines (flat_map (event_lines court labels stamp) appointments)
events_are court labels stamp [] = refl
events_are court labels stamp (a ∷ others) = both (event_lines court labels stamp a) (flat_map (event_lines court labels stamp) others) (event_are court labels stamp a) (events_are court labels stamp others)

all_are : (court : CourtView) (labels : LabelsView) (stamp : ℤ) (appointments : List Appointment) → are_lines (icalendar_lines court labels stamp appointments)
all_are court labels stamp appointments =
    both (head_lines ++ flat_map (event_lines court labels stamp) appointments) (property (codes "END") (codes "VCALENDAR") ∷ [])
    (both head_lines (flat_map (event_lines court labels stamp) appointments) head_are (events_are court labels stamp appointments))
    (one (codes "END") (codes "VCALENDAR") refl)

pub calendars_are_sent_whole : CalendarsAreSentWhole
calendars_are_sent_whole court labels stamp appointments =
    let lines = icalendar_lines court labels stamp appointments in
    let are = all_are court labels stamp appointments in
    record {
      unfolds = unfolding_gives_the_lines lines are;
      characters = folds_are_between_characters lines are;
      short = sent_lines_are_short lines;
    }
