-- Motions, with their hearings.
use Rattle.std.specs.Prelude.{ℕ, List, [], ◌∷◌, ◌++◌, map, Option, Some, None, codes}
use Rattle.json.specs.Json.{Json, string}
use Rattle.court_days.specs.Words.{CourtView}
use Rattle.hearing_slots.specs.declared.need.Need.{Need}
use Rattle.hearing_slots.specs.declared.need.Need.TheVariants as need
use Rattle.docket_rows.specs.declared.command.Counted.TheVariants.{Motion}
use Rattle.docket_rows.specs.declared.fact.DatedRuling.{DatedRuling}
use Rattle.docket_rows.specs.declared.sheet.SheetHearing.{SheetHearing}
use Rattle.docket_rows.specs.declared.sheet.SheetMotion.{SheetMotion}
use Rattle.docket_rows.specs.Words.{ruling_word}
use Rattle.desk_numbers.specs.Words.{label_of}
use Rattle.report_texts.specs.Words.{LabelsView}
use Rattle.report_json.specs.Cases.{label_fields}
use Rattle.report_json.specs.Names.{name_value}
use Rattle.report_json.specs.Times.{day_value, span_fields}
use Rattle.report_json.specs.Values.{Field, array_of, amount, field, object_of, or_null}

-- the days of notice that a motion needs; none if it may be heard without notice
abbrev pub notice_days_of : Need → Option ℕ
notice_days_of need.ExParte = None
notice_days_of (need.Days n) = Some n

-- a hearing: its judges and its room, when its notice was served, by when opposing affidavits are served, and its span
abbrev pub hearing_fields : CourtView → SheetHearing → List Field
hearing_fields court h =
    field (codes "judges") (array_of (map (name_value court.judges) h.hearing.judges))
    ∷ field (codes "room") (name_value court.rooms h.hearing.room)
    ∷ field (codes "notice") (day_value h.hearing.notice)
    ∷ field (codes "affidavits") (or_null day_value h.affidavits)
    ∷ span_fields court.clock.zone h.hearing.day h.hearing.first h.hearing.count

unfoldable pub hearing_value : CourtView → SheetHearing → Json
hearing_value court h = object_of (hearing_fields court h)

-- what is docketed of a motion: its number in its case, when it was served, the notice that it needs, and its hearing
unfoldable pub heard_fields : CourtView → SheetMotion → List Field
heard_fields court m =
    field (codes "number") (amount m.number)
    ∷ field (codes "served") (day_value m.served)
    ∷ field (codes "notice_days") (or_null amount (notice_days_of m.need))
    ∷ field (codes "hearing") (or_null (hearing_value court) m.hearing)
    ∷ []

-- the fields of a motion that was ruled on: how, and when
abbrev pub ruling_fields : Option DatedRuling → List Field
ruling_fields (Some r) = field (codes "ruling") (string (ruling_word r.ruling)) ∷ field (codes "ruled") (day_value r.dated) ∷ []
ruling_fields None = []

-- a motion, with how it was ruled on, if it was
abbrev pub motion_fields : CourtView → SheetMotion → List Field
motion_fields court m = heard_fields court m ++ ruling_fields m.ruling

unfoldable pub motion_value : CourtView → SheetMotion → Json
motion_value court m = object_of (motion_fields court m)

-- a motion of a case, and what rows call it
abbrev pub labelled_motion_fields : CourtView → LabelsView → (case : ℕ) → SheetMotion → List Field
labelled_motion_fields court labels case m = motion_fields court m ++ label_fields (label_of labels.called case Motion m.number)

unfoldable pub labelled_motion : CourtView → LabelsView → (case : ℕ) → SheetMotion → Json
labelled_motion court labels case m = object_of (labelled_motion_fields court labels case m)
