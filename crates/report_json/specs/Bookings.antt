-- The calendars of judges.
use Rattle.std.specs.Prelude.{List, [], ◌∷◌, ◌++◌, map, codes}
use Rattle.json.specs.Json.{Json}
use Rattle.case_numbers.specs.declared.names.NamedCase.{NamedCase}
use Rattle.court_days.specs.Words.{CourtView}
use Rattle.docket_rows.specs.declared.command.Counted.TheVariants.{Motion}
use Rattle.desk_numbers.specs.Words.{label_of}
use Rattle.hearing_slots.specs.declared.booking.Booking.{Booking}
use Rattle.docket_selection.specs.declared.calendars.JudgeCalendar.{JudgeCalendar}
use Rattle.report_texts.specs.Words.{LabelsView}
use Rattle.report_json.specs.Cases.{called_case_fields, case_fields, label_fields}
use Rattle.report_json.specs.Names.{name_value}
use Rattle.report_json.specs.Times.{span_fields}
use Rattle.report_json.specs.Values.{Field, amount, array_of, field, object_of}

-- the motion of a hearing on a judge's calendar, its room, and its span
unfoldable pub booked_fields : CourtView → Booking → List Field
booked_fields court b =
    field (codes "motion") (amount b.motion)
    ∷ field (codes "room") (name_value court.rooms b.other)
    ∷ span_fields court.clock.zone b.day b.first b.count

-- a hearing on a judge's calendar: its case, by its number and its name where it has one, and the rest
abbrev pub booking_fields : CourtView → List NamedCase → Booking → List Field
booking_fields court named b = case_fields named b.case ++ booked_fields court b

unfoldable pub booking_value : CourtView → List NamedCase → Booking → Json
booking_value court named b = object_of (booking_fields court named b)

-- the same, with what rows call the case and the motion
abbrev pub labelled_booked : CourtView → LabelsView → Booking → List Field
labelled_booked court labels b = booked_fields court b ++ label_fields (label_of labels.called b.case Motion b.motion)

abbrev pub called_booking_fields : CourtView → LabelsView → Booking → List Field
called_booking_fields court labels b = called_case_fields labels b.case ++ labelled_booked court labels b

unfoldable pub called_booking : CourtView → LabelsView → Booking → Json
called_booking court labels b = object_of (called_booking_fields court labels b)

-- a judge, with each of the bookings in order
abbrev pub calendar_fields : CourtView → LabelsView → JudgeCalendar → List Field
calendar_fields court labels c =
    field (codes "judge") (name_value court.judges c.judge)
    ∷ field (codes "bookings") (array_of (map (called_booking court labels) c.bookings))
    ∷ []

unfoldable pub calendar_value : CourtView → LabelsView → JudgeCalendar → Json
calendar_value court labels c = object_of (calendar_fields court labels c)
