-- The lines of other readings: one for each that gives another end.
use Rattle.std.specs.Prelude.{◌≡◌, ◌↔◌, ℕ, List, [], ◌++◌, Option, Some, None, codes}
use Rattle.std.specs.List.{flat_map}
use Rattle.court_clock.specs.Words.{ClockView}
use Rattle.rule6.specs.declared.timeliness.Shown.{Shown}
use Rattle.rule6.specs.declared.timeliness.Shown.TheVariants.{Last, Until, Beyond}
use Rattle.rule_periods.specs.Words.{DeadlineRowView}
use Rattle.reason_texts.specs.Words.{note_line}
use Rattle.reason_notes.specs.Margins.Words.{end_day, end_time}
use Rattle.reason_notes.specs.declared.readings.reading.Reading.{Reading}
use Rattle.reason_notes.specs.declared.readings.reading.Reading.TheVariants.{OutageMovesNothing, OutageMovesService, ExtendedFromMovedDay, OutageBeforeAddedDays, HoursFromEndOfDay, FridayIsOpen, DoubtfulIsOpen}
use Rattle.reason_notes.specs.Readings.ByReading.{DaysByReadingView}
use Rattle.reason_notes.specs.Readings.Others.{all_readings, other_by, other_end}

abbrev pub reading_words : Reading → List ℕ
reading_words OutageMovesNothing = codes "other reading: the outage moves nothing"
reading_words OutageMovesService = codes "other reading: outages move service too"
reading_words ExtendedFromMovedDay = codes "other reading: extended from the moved day"
reading_words OutageBeforeAddedDays = codes "other reading: moved before the 3 days too"
reading_words HoursFromEndOfDay = codes "other reading: from the end of that day"
reading_words FridayIsOpen = codes "other reading: that Friday isn't a legal holiday"
reading_words DoubtfulIsOpen = codes "other reading: that day isn't a legal holiday"

-- what the other reading is, and the end that it gives, but for its day: the time of an instant, or that no covered day ends it
abbrev pub given_text : ClockView → Shown → List ℕ
given_text clock Beyond = codes ", beyond"
given_text clock (Last day act) = []
given_text clock (Until t) = end_time clock (Until t)

unfoldable pub reading_text : ClockView → Reading → Shown → List ℕ
reading_text clock reading shown = reading_words reading ++ given_text clock shown

-- the line of a reading that gives this end in place of the one that is shown
abbrev pub line_of : ClockView → Reading → Option Shown → List ℕ
line_of clock reading None = []
line_of clock reading (Some other) = note_line (end_day clock other) (reading_text clock reading other) (codes "ours")

abbrev pub reading_line : DaysByReadingView → ClockView → DeadlineRowView → Reading → List ℕ
reading_line c clock row reading = line_of clock reading (other_by c clock row reading)

-- the lines of all readings
unfoldable pub reading_lines : DaysByReadingView → ClockView → DeadlineRowView → List ℕ
reading_lines c clock row = flat_map (reading_line c clock row) all_readings

-- A deadline has no other end exactly where it has no line of another reading.
abbrev pub NoOtherEndHasNoLine : Type 0
NoOtherEndHasNoLine = (c : DaysByReadingView) (clock : ClockView) (row : DeadlineRowView) → (other_end c clock row ≡ None) ↔ (reading_lines c clock row ≡ [])
