-- What of sheets is compared: the day on which a case was filed, the ends of its deadlines and which of them were ended, and the
-- hearings of its motions and how they were ruled on.
use Rattle.std.specs.Prelude.{ℕ, ℤ, List, [], ◌∷◌, ◌++◌, Option, Some, None, map}
use Rattle.std.specs.List.{flat_map}
use Rattle.court_clock.specs.Words.{ClockView}
use Rattle.court_days.specs.Words.{CourtView}
use Rattle.docket_rows.specs.declared.fact.DatedRuling.{DatedRuling}
use Rattle.docket_rows.specs.declared.sheet.SheetDeadline.{SheetDeadline}
use Rattle.docket_rows.specs.declared.sheet.SheetHearing.{SheetHearing}
use Rattle.docket_rows.specs.declared.sheet.SheetMotion.{SheetMotion}
use Rattle.docket_rows.specs.declared.view.View.{View}
use Rattle.docket_rows.specs.declared.view.View.TheVariants as view
use Rattle.office_texts.specs.Words.{and_ended_text, and_ruled_text, hearing_text, ruled_text, shown_text}
use Rattle.docket_shifts.specs.Texts.{NumberedTextView}

-- the day on which the case was filed; none of a case that isn't open
abbrev pub filed_in : View → Option ℤ
filed_in (view.Sheet sheet) = Some sheet.filed
filed_in other = None

-- the end of a deadline, and why it is due no more, if it was ended
abbrev pub end_of : ClockView → SheetDeadline → NumberedTextView
end_of clock d = record { number = d.number; text = shown_text clock d.shown ++ and_ended_text d.ended }

-- those of a sheet; a case that isn't open has none
abbrev pub ends_in : CourtView → View → List NumberedTextView
ends_in court (view.Sheet sheet) = map (end_of court.clock) sheet.deadlines
ends_in court other = []

-- how a motion was ruled on, if it was
abbrev pub ruling_under : (number : ℕ) → Option DatedRuling → List NumberedTextView
ruling_under number None = []
ruling_under number (Some r) = record { number = number; text = ruled_text r } ∷ []

-- the hearing of a motion, if it has one, and how it was ruled on, if it was
abbrev pub hearing_under : CourtView → (number : ℕ) → Option SheetHearing → Option DatedRuling → List NumberedTextView
hearing_under court number None ruled = ruling_under number ruled
hearing_under court number (Some hearing) ruled = record { number = number; text = hearing_text court hearing ++ and_ruled_text ruled } ∷ []

abbrev pub hearing_of : CourtView → SheetMotion → List NumberedTextView
hearing_of court m = hearing_under court m.number m.hearing m.ruling

-- those of a sheet
abbrev pub hearings_in : CourtView → View → List NumberedTextView
hearings_in court (view.Sheet sheet) = flat_map (hearing_of court) sheet.motions
hearings_in court other = []
