-- What the text of a calendar means.
use Rattle.std.specs.Prelude.{◌≡◌, ℤ, List}
use Rattle.std.specs.List.{flat_map}
use Rattle.std.specs.Str.{IsUtf8}
use Rattle.court_days.specs.Words.{CourtView}
use Rattle.content_lines.specs.Words.{ended_line, unfolded, HasShortLines, HasWholeCharacters}
use Rattle.report_texts.specs.Words.{LabelsView}
use Rattle.report_ics.specs.declared.appointment.Appointment.{Appointment}
use Rattle.report_ics.specs.Calendar.{icalendar_lines, icalendar_text}

-- Unfolding the text of a calendar gives its lines, each with its end; no fold is inside a character; and, since it is text,
-- no line of it has more than 75 bytes.
pub record IsSentWhole (court : CourtView) (labels : LabelsView) (stamp : ℤ) (appointments : List Appointment) : Type 0 where
  pub unfolds : unfolded (icalendar_text court labels stamp appointments) ≡ flat_map ended_line (icalendar_lines court labels stamp appointments)
  pub characters : HasWholeCharacters (icalendar_text court labels stamp appointments)
  pub short : IsUtf8 (icalendar_text court labels stamp appointments) → HasShortLines (icalendar_text court labels stamp appointments)

abbrev pub CalendarsAreSentWhole : Type 0
CalendarsAreSentWhole = (court : CourtView) (labels : LabelsView) (stamp : ℤ) (appointments : List Appointment) → IsSentWhole court labels stamp appointments
