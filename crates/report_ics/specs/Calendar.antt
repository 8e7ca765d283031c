-- A calendar (RFC 5545, 3.4): its lines, and the text that is sent.
use Rattle.std.specs.Prelude.{ℕ, ℤ, List, [], ◌∷◌, ◌++◌, codes}
use Rattle.std.specs.List.{flat_map}
use Rattle.court_days.specs.Words.{CourtView}
use Rattle.content_lines.specs.Words.{property, sent}
use Rattle.report_texts.specs.Words.{LabelsView}
use Rattle.report_ics.specs.declared.appointment.Appointment.{Appointment}
use Rattle.report_ics.specs.Events.{event_lines}

unfoldable pub head_lines : List (List ℕ)
head_lines =
    property (codes "BEGIN") (codes "VCALENDAR")
    ∷ property (codes "VERSION") (codes "2.0")
    ∷ property (codes "PRODID") (codes "-//Jerghuma//docket//EN")
    ∷ []

-- the lines of a calendar: an event for each appointment, in their order
abbrev pub icalendar_lines : CourtView → LabelsView → (stamp : ℤ) → List Appointment → List (List ℕ)
icalendar_lines court labels stamp appointments =
    head_lines ++ flat_map (event_lines court labels stamp) appointments ++ property (codes "END") (codes "VCALENDAR") ∷ []

-- the text of a calendar
abbrev pub icalendar_text : CourtView → LabelsView → (stamp : ℤ) → List Appointment → List ℕ
icalendar_text court labels stamp appointments = sent (icalendar_lines court labels stamp appointments)
